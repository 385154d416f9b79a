-- The braces of what is written of nodes are those of the nodes that get a number, in their order.
use Rattle.std.proofs.Common.{◌≡◌, ℕ, zero, suc, ◌<◌, ◌≤◌, Bool, true, false, not, if◌then◌else◌, ℤ, List, [], ◌∷◌, ◌++◌, length, map, Option, Some, None, slice_get, slice_set, refl, sym, ap, subst, ◌∙◌, arith, append_assoc, append-nil}
use Rattle.std.specs.Prelude.{slice_index_or}
use Rattle.std.specs.List.{AllByRecursion, flat_map, fold}
use Rattle.std.proofs.lemmas.Grind.{flat_map-append}
use Rattle.std.proofs.lemmas.List.{map-append}
use Rattle.std.proofs.lemmas.List.Sums.{fold-append}
use Rattle.x3d_values.specs.declared.node_type.NodeType.{NodeType}
use Rattle.x3d_values.specs.declared.node_type.NodeType.TheVariants.{Group}
use Rattle.x3d_values.specs.declared.value.Value.TheVariants as value
use Rattle.x3d_values.specs.Names.{node_type_name, node_type_named}
use Rattle.x3d_values.specs.Values.{nodes_of}
use Rattle.classic_tree.specs.declared.tree.BodyItem.{BodyItem}
use Rattle.classic_tree.specs.declared.tree.Given.TheVariants as given
use Rattle.classic_tree.specs.declared.tree.NodeText.{NodeText}
use Rattle.proto_flat.specs.declared.flat.FlatNode.{FlatNode}
use Rattle.laws_documents.specs.Closings.{Braces, Shown, expected, in_item, in_node, in_value}
use Rattle.laws_documents.proofs.ClosingParts.{in_declaration, in_field, in_full, in_use}
use Rattle.scene_core.specs.declared.numbering.Numbering.{Numbering}
use Rattle.scene_core.specs.declared.scene.SceneNode.{SceneNode}
use Rattle.scene_core.specs.Numbers.{appear, close}
use Rattle.scene_core.specs.Parts.{parts_of}
use Rattle.scene_core.specs.Scene.{label_of, type_at}
use Rattle.scene_core.specs.Tasks.{unopened}
use Rattle.scene_core.proofs.Fuel.{visit-new, visit-old}
use Rattle.scene_text.specs.Raw.{color_run, integer_run, number_list, number_run, pair_run, string_list, truth_list, vector_run}
use Rattle.scene_text.specs.Tree.{Declared, Makes, Plain, PlanView, Grows, def_name, each, field_tree, node_tree, one_more, opened, shown_fields, use_tree, value_tree}
use Rattle.scene_text.specs.Tree.{Shown as Field}
use Rattle.laws_written.proofs.NumberedLists.{length_set}
use Rattle.laws_written.proofs.NumberedScenes.{found}
use Rattle.laws_written.proofs.Visits.{full, unopened_few}
use Rattle.laws_written.specs.Writable.{IsShallow}
use Rattle.laws_written.proofs.OrderShown.{links}
use Rattle.laws_written.proofs.Plans.{Stand, all_split, begins, none_shallow, one, ones_are, shallow_low, type_is}

-- the names of types are told apart
pub type_named : (t : NodeType) → node_type_named (node_type_name t) ≡ Some t
type_named Group = refl
type_named _ = refl

-- ---- values without nodes

no_truths : (truths : List Bool) → in_value in_node (truth_list truths) ≡ []
no_truths [] = refl
no_truths (t ∷ ts) = refl

no_numbers : (numbers : List ℤ) → in_value in_node (number_list numbers) ≡ []
no_numbers [] = refl
no_numbers (n ∷ ns) = refl

no_texts : (texts : List (List ℕ)) → in_value in_node (string_list texts) ≡ []
no_texts [] = refl
no_texts (t ∷ ts) = refl

abbrev pub told : List Braces → List Shown
told braces = map expected braces

module _ (p : PlanView) (nodes : List FlatNode) where
  abbrev pub F : Numbering → ℕ → Numbering
  F = full nodes

  -- how a node is written
  abbrev pub as_written : ℕ → Shown
  as_written n = (type_at p.scene n, def_name p n)

  abbrev pub ended : Numbering → List Shown
  ended s = map as_written s.order

  -- what is made between two numberings has the braces of the nodes that got a number
  pub record Closes {B : Type 0} (braces_in : B → List Braces) (s v : Numbering) (m : Grows B) : Type 0 where
    pub seen : m.seen ≡ v.opened
    pub sized : length v.opened ≡ length nodes
    pub closed : ended v ≡ ended s ++ told (braces_in m.made)

  abbrev pub Making : {A B : Type 0} → (ℕ → Type 0) → (A → List ℕ) → (B → List Braces) → Makes A B → Type 0
  Making {A} {B} Q nodes_in braces_in make =
      (s : Numbering) (x : A) → length s.opened ≡ length nodes → AllByRecursion Q (nodes_in x)
      → Closes braces_in s (fold F s (nodes_in x)) (make s.opened x)

  none_made : {B : Type 0} (braces_in : B → List Braces) (s : Numbering) (made : B) → length s.opened ≡ length nodes → braces_in made ≡ []
      → Closes braces_in s s (record { seen = s.opened; made = made })
  none_made braces_in s made l e = record { seen = refl; sized = l; closed = sym (append-nil (ended s)) ∙ ap (λ (bs : List Braces). ended s ++ told bs) (sym e) }

  -- ---- of each in turn

  module _ {A B : Type 0} (Q : ℕ → Type 0) (nodes_in : A → List ℕ) (braces_in : B → List Braces) (make : Makes A B) (k : Making Q nodes_in braces_in make) where
    one_told : (made : List B) (b : B) → told (flat_map braces_in (made ++ b ∷ [])) ≡ told (flat_map braces_in made) ++ told (braces_in b)
    one_told made b =
        ap told (flat_map-append braces_in made (b ∷ []))
        ∙ (map-append expected (flat_map braces_in made) (braces_in b ++ [])
        ∙ ap (λ (bs : List Braces). told (flat_map braces_in made) ++ told bs) (append-nil (braces_in b)))

    pub in_turn : (s0 s : Numbering) (made : List B) (xs : List A) → length s.opened ≡ length nodes → AllByRecursion Q (flat_map nodes_in xs)
        → ended s ≡ ended s0 ++ told (flat_map braces_in made)
        → Closes (flat_map braces_in) s0 (fold F s (flat_map nodes_in xs)) (fold (one_more make) (begins s.opened made) xs)
    in_turn s0 s made [] l q e = record { seen = refl; sized = l; closed = e }
    in_turn s0 s made (x ∷ xs) l q e =
        let now : List ℕ = nodes_in x in
        let others : List ℕ = flat_map nodes_in xs in
        let s1 : Numbering = fold F s now in
        let b : B = (make s.opened x).made in
        let split = all_split Q now others q in
        let first = k s x l split.0 in
        let more : ended s1 ≡ ended s0 ++ told (flat_map braces_in (made ++ b ∷ [])) =
        first.closed
        ∙ (ap (λ (l : List Shown). l ++ told (braces_in b)) e
        ∙ (append_assoc (ended s0) (told (flat_map braces_in made)) (told (braces_in b))
        ∙ ap (λ (l : List Shown). ended s0 ++ l) (sym (one_told made b)))) in
        let rest = in_turn s0 s1 (made ++ b ∷ []) xs first.sized split.1 more in
        subst (λ (v : Numbering). Closes (flat_map braces_in) s0 v (fold (one_more make) (begins (make s.opened x).seen (made ++ b ∷ [])) xs)) (sym (fold-append F s now others))
        (subst (λ (seen : List Bool). Closes (flat_map braces_in) s0 (fold F s1 others) (fold (one_more make) (begins seen (made ++ b ∷ [])) xs)) (sym first.seen) rest)

    pub all_in_turn : (s : Numbering) (xs : List A) → length s.opened ≡ length nodes → AllByRecursion Q (flat_map nodes_in xs)
        → Closes (flat_map braces_in) s (fold F s (flat_map nodes_in xs)) (each make s.opened xs)
    all_in_turn s xs l q = in_turn s s [] xs l q (sym (append-nil (ended s)))

  module _ {B : Type 0} (Q : ℕ → Type 0) (braces_in : B → List Braces) (make : Makes ℕ B) (k : Making Q one braces_in make) where
    pub nodes_in_turn : (s : Numbering) (ns : List ℕ) → length s.opened ≡ length nodes → AllByRecursion Q ns
        → Closes (flat_map braces_in) s (fold F s ns) (each make s.opened ns)
    nodes_in_turn s ns l q =
        subst (λ (l : List ℕ). Closes (flat_map braces_in) s (fold F s l) (each make s.opened ns)) (ones_are ns)
        (all_in_turn Q one braces_in make k s ns l (subst (AllByRecursion Q) (sym (ones_are ns)) q))

  -- ---- fields

  module _ (Q : ℕ → Type 0) (tree : Makes ℕ NodeText) (k : Making Q one in_node tree) where
    value_braces : Making Q nodes_of (in_value in_node) (value_tree tree)
    value_braces s (value.SFNode (Some n)) l q = let c = k s n l q in record { seen = c.seen; sized = c.sized; closed = c.closed }
    value_braces s (value.MFNode []) l q = none_made (in_value in_node) s (value_tree tree s.opened (value.MFNode [])).made l refl
    value_braces s (value.MFNode (n ∷ ns)) l q =
        let c = nodes_in_turn Q in_node tree k s (n ∷ ns) l q in record { seen = c.seen; sized = c.sized; closed = c.closed }
    value_braces s (value.SFNode None) l q = none_made (in_value in_node) s (value_tree tree s.opened (value.SFNode None)).made l refl
    value_braces s (value.SFBool v) l q = none_made (in_value in_node) s (value_tree tree s.opened (value.SFBool v)).made l refl
    value_braces s (value.SFInt32 v) l q = none_made (in_value in_node) s (value_tree tree s.opened (value.SFInt32 v)).made l refl
    value_braces s (value.SFFloat v) l q = none_made (in_value in_node) s (value_tree tree s.opened (value.SFFloat v)).made l refl
    value_braces s (value.SFTime v) l q = none_made (in_value in_node) s (value_tree tree s.opened (value.SFTime v)).made l refl
    value_braces s (value.SFString v) l q = none_made (in_value in_node) s (value_tree tree s.opened (value.SFString v)).made l refl
    value_braces s (value.SFVec2f v) l q = none_made (in_value in_node) s (value_tree tree s.opened (value.SFVec2f v)).made l refl
    value_braces s (value.SFVec3f v) l q = none_made (in_value in_node) s (value_tree tree s.opened (value.SFVec3f v)).made l refl
    value_braces s (value.SFColor v) l q = none_made (in_value in_node) s (value_tree tree s.opened (value.SFColor v)).made l refl
    value_braces s (value.MFBool v) l q = none_made (in_value in_node) s (value_tree tree s.opened (value.MFBool v)).made l (no_truths v)
    value_braces s (value.MFInt32 v) l q = none_made (in_value in_node) s (value_tree tree s.opened (value.MFInt32 v)).made l (no_numbers (flat_map integer_run v))
    value_braces s (value.MFFloat v) l q = none_made (in_value in_node) s (value_tree tree s.opened (value.MFFloat v)).made l (no_numbers (flat_map number_run v))
    value_braces s (value.MFTime v) l q = none_made (in_value in_node) s (value_tree tree s.opened (value.MFTime v)).made l (no_numbers (flat_map number_run v))
    value_braces s (value.MFString v) l q = none_made (in_value in_node) s (value_tree tree s.opened (value.MFString v)).made l (no_texts v)
    value_braces s (value.MFVec2f v) l q = none_made (in_value in_node) s (value_tree tree s.opened (value.MFVec2f v)).made l (no_numbers (flat_map pair_run v))
    value_braces s (value.MFVec3f v) l q = none_made (in_value in_node) s (value_tree tree s.opened (value.MFVec3f v)).made l (no_numbers (flat_map vector_run v))
    value_braces s (value.MFColor v) l q = none_made (in_value in_node) s (value_tree tree s.opened (value.MFColor v)).made l (no_numbers (flat_map color_run v))

    field_braces : Making Q links in_item (field_tree tree)
    field_braces s (Plain name v) l q =
        let m = value_tree tree s.opened v in
        let c = value_braces s v l q in
        record {
          seen = c.seen;
          sized = c.sized;
          closed = c.closed ∙ ap (λ (bs : List Braces). ended s ++ told bs) (sym (in_field 0 name (given.Value m.made)));
        }
    field_braces s (Declared d None) l q =
        none_made in_item s (field_tree tree s.opened (Declared d None)).made l
        (in_declaration (record { line = 0; access = d.access; field_type = d.field_type; name = d.name; given = given.Nothing }))
    field_braces s (Declared d (Some v)) l q =
        let m = value_tree tree s.opened v in
        let c = value_braces s v l q in
        record {
          seen = c.seen;
          sized = c.sized;
          closed = c.closed
              ∙ ap (λ (bs : List Braces). ended s ++ told bs)
              (sym (in_declaration (record { line = 0; access = d.access; field_type = d.field_type; name = d.name; given = given.Value m.made })));
        }

  -- ---- nodes

  module _ (stand : Stand p nodes) where
    abbrev NodesClose : ℕ → Type 0
    NodesClose depth = Making (IsShallow p.scene depth) one in_node (node_tree depth p)

    -- the braces of a node, behind those in it
    full_told : (n : ℕ) (node : SceneNode) → slice_get p.scene.nodes n ≡ Some node → (inner : List Braces)
        → told (inner ++ record { word = node_type_name node.node_type; name = def_name p n } ∷ []) ≡ told inner ++ as_written n ∷ []
    full_told n node is inner =
        let last : Braces = record { word = node_type_name node.node_type; name = def_name p n } in
        let same : node_type_named (node_type_name node.node_type) ≡ type_at p.scene n = type_named node.node_type ∙ sym (type_is p.scene n node is) in
        map-append expected inner (last ∷ [])
        ∙ ap (λ (t : Option NodeType). told inner ++ (t, def_name p n) ∷ []) same

    new_closes : (depth : ℕ) → NodesClose depth → (s : Numbering) (n : ℕ) (node : SceneNode) → length s.opened ≡ length nodes
        → slice_get p.scene.nodes n ≡ Some node → IsShallow p.scene (suc depth) n → slice_index_or s.opened n true ≡ false
        → Closes in_node s (F s n) (opened p (node_tree depth p) s.opened n (Some node.node_type))
    new_closes depth k s n node l is h new =
        let fields : List Field = shown_fields p n node.node_type in
        let tree : Makes ℕ NodeText = node_tree depth p in
        let inside : List ℕ = parts_of nodes n in
        let there : length (appear s n).opened ≡ length nodes = length_set s.opened n true ∙ l in
        let same : flat_map links fields ≡ inside = stand.shown n node is in
        let few : unopened s.opened ≤ length nodes = (let u = unopened_few s.opened in omega (arith, u, l)) in
        let visited : F s n ≡ close (fold F (appear s n) inside) n = visit-new nodes (length nodes) s n (ap not new) few in
        let items : Grows (List BodyItem) = each (field_tree tree) (slice_set s.opened n true) fields in
        let c : Closes (flat_map in_item) (appear s n) (fold F (appear s n) inside) items =
        subst (λ (l : List ℕ). Closes (flat_map in_item) (appear s n) (fold F (appear s n) l) items) same
        (all_in_turn (IsShallow p.scene depth) links in_item (field_tree tree) (field_braces (IsShallow p.scene depth) tree k) (appear s n) fields there
        (subst (AllByRecursion (IsShallow p.scene depth)) (sym same) (stand.shallow depth n node is h))) in
        let name : Option (List ℕ) = def_name p n in
        let braces : told (in_node (opened p tree s.opened n (Some node.node_type)).made) ≡ told (flat_map in_item items.made) ++ as_written n ∷ [] =
        ap told (in_full 0 name (node_type_name node.node_type) items.made) ∙ full_told n node is (flat_map in_item items.made) in
        let closed : ended (close (fold F (appear s n) inside) n) ≡ ended s ++ told (in_node (opened p tree s.opened n (Some node.node_type)).made) =
        map-append as_written (fold F (appear s n) inside).order (n ∷ [])
        ∙ (ap (λ (l : List Shown). l ++ as_written n ∷ []) c.closed
        ∙ (append_assoc (ended s) (told (flat_map in_item items.made)) (as_written n ∷ [])
        ∙ ap (λ (l : List Shown). ended s ++ l) (sym braces))) in
        subst (λ (v : Numbering). Closes in_node s v (opened p tree s.opened n (Some node.node_type))) (sym visited)
        (record { seen = c.seen; sized = c.sized; closed = closed })

    by_seen : (depth : ℕ) → NodesClose depth → (s : Numbering) (n : ℕ) (b : Bool) → slice_index_or s.opened n true ≡ b → length s.opened ≡ length nodes
        → n < length p.scene.nodes → IsShallow p.scene (suc depth) n
        → Closes in_node s (F s n) (opened p (node_tree depth p) s.opened n (if b then None else type_at p.scene n))
    by_seen depth k s n true e l low h =
        let same : F s n ≡ s = visit-old nodes (length nodes) s n (ap not e) in
        subst (λ (v : Numbering). Closes in_node s v (opened p (node_tree depth p) s.opened n None)) (sym same)
        (none_made in_node s (use_tree p n) l (in_use 0 (label_of p.scene n)))
    by_seen depth k s n false e l low h =
        let f = found p.scene.nodes n low in
        subst (λ (o : Option NodeType). Closes in_node s (F s n) (opened p (node_tree depth p) s.opened n o)) (sym (type_is p.scene n f.0 f.1))
        (new_closes depth k s n f.0 l f.1 h e)

    pub nodes_close : (depth : ℕ) → NodesClose depth
    unfolding node_tree
    nodes_close zero s n l q = absurd (none_shallow p.scene n q.0)
    nodes_close (suc depth) s n l q = by_seen depth (nodes_close depth) s n (slice_index_or s.opened n true) refl l (shallow_low p.scene depth n q.0) q.0
