-- Lists of what is made in turn, and what a Switch with helpers shows.
use Rattle.std.proofs.Common.{◌≡◌, ℕ, zero, suc, ◌+◌, ◌<◌, Bool, true, false, not, cond, if◌then◌else◌, List, [], ◌∷◌, ◌++◌, length, map, replicate, Some, codes, get_or, slice_get, refl, ap, ◌∙◌, arith}
use Rattle.std.specs.List.{AllByRecursion, flat_map, fold}
use Rattle.std.proofs.lemmas.Bool.{ne_eqb}
use Rattle.x3d_values.specs.declared.node_type.NodeType.TheVariants.{Switch}
use Rattle.x3d_values.specs.declared.value.Value.TheVariants.{MFNode}
use Rattle.x3d_values.specs.Tables.{rows}
use Rattle.classic_tree.specs.declared.tree.NodeText.{NodeText}
use Rattle.classic_tree.specs.declared.tree.Statement.TheVariants as statement
use Rattle.scene_core.specs.declared.scene.SceneNode.{SceneNode}
use Rattle.scene_text.specs.Statements.{helper_root, switch_of}
use Rattle.scene_text.specs.Tree.{Makes, Plain, PlanView, Grows, new_type, node_tree, one_more, opened}
use Rattle.laws_written.specs.Children.{children}
use Rattle.laws_written.proofs.Counts.{hits}
use Rattle.laws_written.proofs.NodesParts.{all_join}
use Rattle.laws_written.specs.Again.{switch_value}
use Rattle.laws_written.proofs.SameFields.{shown_by}

-- ---- lists

pub both_all : {A : Type 0} (P Q : A → Type 0) (xs : List A) → AllByRecursion P xs → AllByRecursion Q xs → AllByRecursion (λ (x : A). P x × Q x) xs
both_all P Q [] h g = tt
both_all P Q (x ∷ xs) h g = ((h.0, g.0), both_all P Q xs h.1 g.1)

pub none_seen : (many n : ℕ) → n < many → get_or (replicate many false) n true ≡ false
none_seen zero n l = absurd (omega (arith, l))
none_seen (suc many) zero l = refl
none_seen (suc many) (suc n) l = none_seen many n (omega (arith, l))

-- none hits a number that all are below
pub no_hits : (x : ℕ) (ns : List ℕ) → AllByRecursion (λ (n : ℕ). n < x) ns → hits x ns ≡ 0
no_hits x [] h = refl
no_hits x (n ∷ ns) h = ap (λ (b : Bool). cond b (1 + hits x ns) (hits x ns)) (ne_eqb n x (λ e. (let l = h.0 in omega (arith, e, l)))) ∙ no_hits x ns h.1

pub all_joined : (P : ℕ → Type 0) (nodes : List SceneNode) → AllByRecursion (λ (n : SceneNode). AllByRecursion P (children n)) nodes
    → AllByRecursion P (flat_map (λ (l : List ℕ). l) (map children nodes))
all_joined P [] h = tt
all_joined P (n ∷ ns) h = all_join P (children n) (flat_map (λ (l : List ℕ). l) (map children ns)) h.0 (all_joined P ns h.1)

pub all_placed : {A : Type 0} (P : A → Type 0) (xs : List A) → ((n : ℕ) (x : A) → slice_get xs n ≡ Some x → P x) → AllByRecursion P xs
all_placed P [] k = tt
all_placed P (x ∷ xs) k = (k 0 x refl, all_placed P xs (λ n y at. k (suc n) y at))

-- the first thing that was made stays the first
pub record HasFirst {B : Type 0} (first : B) (made : List B) : Type 0 where
  pub others : List B
  pub is : made ≡ first ∷ others

pub keeps_first : {A B : Type 0} (make : Makes A B) (first : B) (xs : List A) (s : Grows (List B)) → HasFirst first s.made → HasFirst first (fold (one_more make) s xs).made
keeps_first make first [] s h = h
keeps_first make first (x ∷ xs) s h =
    keeps_first make first xs (one_more make s x)
    (record { others = h.others ++ (make s.seen x).made ∷ []; is = ap (λ l. l ++ (make s.seen x).made ∷ []) h.is })

-- helpers, where there are some, are the children of a Switch
pub switch_stands : (first : NodeText) (made : List NodeText) → HasFirst first made → helper_root made ≡ statement.Node (switch_of made) ∷ []
switch_stands first made h = rw h.is refl

-- ---- what a Switch with helpers shows

pub children_shown : (h : ℕ) (hs : List ℕ) → shown_by (switch_value (h ∷ hs)) 0 (rows Switch) ≡ Plain (codes "children") (MFNode (h ∷ hs)) ∷ []
children_shown h hs =
    ap (λ (b : Bool). (if not b then Plain (codes "children") (MFNode (h ∷ hs)) ∷ [] else []) ++ []) (ne_eqb (length (h ∷ hs)) 0 (λ e. omega (arith, e)))

pub tree_is : (depth : ℕ) (p : PlanView) (seen : List Bool) (n : ℕ) → node_tree (suc depth) p seen n ≡ opened p (node_tree depth p) seen n (new_type p seen n)
unfolding node_tree
tree_is depth p seen n = refl
