-- A scene that is written, and nodes in which stand the nodes that stand in the scene's.
use Rattle.std.proofs.Common.{◌≡◌, ℕ, zero, suc, ◌<◌, Bool, false, List, [], ◌∷◌, ◌++◌, length, replicate, Option, Some, Ok, slice_get, refl, sym, ap, subst, ◌∙◌}
use Rattle.std.specs.Prelude.{option_map}
use Rattle.std.specs.List.{AllByRecursion, flat_map, fold, range_with_len}
use Rattle.std.proofs.lemmas.List.{length-map}
use Rattle.std.proofs.lemmas.List.Sums.{fold-append}
use Rattle.std.proofs.lemmas.Option.{slice_get-map}
use Rattle.x3d_values.specs.declared.fields.Fields.{Fields}
use Rattle.x3d_values.specs.Ranges.{max_depth}
use Rattle.classic_tree.specs.declared.tree.NodeText.{NodeText}
use Rattle.classic_tree.specs.declared.tree.Statement.{Statement}
use Rattle.proto_flat.specs.declared.flat.Flat.{Flat}
use Rattle.proto_flat.specs.declared.flat.FlatNode.{FlatNode}
use Rattle.scene_core.specs.declared.numbering.Numbering.{Numbering}
use Rattle.scene_core.specs.declared.scene.Route.{Route}
use Rattle.scene_core.specs.declared.scene.SceneNode.{SceneNode}
use Rattle.scene_core.specs.Building.{scene_of}
use Rattle.scene_core.specs.Numbers.{numbering, unnumbered}
use Rattle.scene_core.specs.Parts.{parts_of}
use Rattle.scene_core.specs.Scene.{SceneView, type_at}
use Rattle.scene_text.specs.Places.{named}
use Rattle.scene_text.specs.Statements.{root_tree, roots_of}
use Rattle.scene_text.specs.Tree.{Makes, PlanView, Grows, each, node_tree, shown_fields}
use Rattle.laws_written.specs.ScenesAgain.{in_place}
use Rattle.laws_written.proofs.TextAgain.{all_numbered_again}
use Rattle.laws_written.proofs.Lower.{helpers_low, roots_low}
use Rattle.laws_written.proofs.NumberedScenes.{scene_is}
use Rattle.laws_written.proofs.Visits.{full}
use Rattle.laws_written.specs.Writable.{AreKeepable, IsShallow}
use Rattle.laws_written.proofs.OrderShown.{links}
use Rattle.laws_written.proofs.NodesParts.{holders, holders_have, shallow_children, shown_are}

-- ---- lists

pub all_split : {A : Type 0} (P : A → Type 0) (xs ys : List A) → AllByRecursion P (xs ++ ys) → AllByRecursion P xs × AllByRecursion P ys
all_split P [] ys h = (tt, h)
all_split P (x ∷ xs) ys h = let s = all_split P xs ys h.1 in ((h.0, s.0), s.1)

abbrev pub one : ℕ → List ℕ
one n = n ∷ []

pub ones_are : (ns : List ℕ) → flat_map one ns ≡ ns
ones_are [] = refl
ones_are (n ∷ ns) = ap (λ (l : List ℕ). n ∷ l) (ones_are ns)

abbrev pub begins : {B : Type 0} → List Bool → List B → Grows (List B)
begins seen made = record { seen = seen; made = made }

-- ---- nodes of a scene

pub type_is : (s : SceneView) (n : ℕ) (node : SceneNode) → slice_get s.nodes n ≡ Some node → type_at s n ≡ Some node.node_type
type_is s n node is =
    slice_get-map (λ (m : SceneNode). m.node_type) s.nodes n ∙ ap (λ (o : Option SceneNode). option_map (λ (m : SceneNode). m.node_type) o) is

pub shallow_low : (s : SceneView) (depth n : ℕ) → IsShallow s (suc depth) n → n < length s.nodes
unfolding IsShallow
shallow_low s depth n h = h.0

pub none_shallow : (s : SceneView) (n : ℕ) → IsShallow s zero n → ⊥
unfolding IsShallow
none_shallow s n h = h

-- ---- a plan

-- the tree of a node among the roots or the helpers
abbrev pub tree : PlanView → Makes ℕ NodeText
tree p = node_tree max_depth p

module _ (p : PlanView) (nodes : List FlatNode) where
  -- in these nodes stand those that stand in the scene's
  pub record Stand : Type 0 where
    pub many : length nodes ≡ length p.scene.nodes
    pub shown : (n : ℕ) (node : SceneNode) → slice_get p.scene.nodes n ≡ Some node → flat_map links (shown_fields p n node.node_type) ≡ parts_of nodes n
    pub shallow : (depth n : ℕ) (node : SceneNode) → slice_get p.scene.nodes n ≡ Some node → IsShallow p.scene (suc depth) n
        → AllByRecursion (IsShallow p.scene depth) (parts_of nodes n)

  -- the numbering behind the roots, and behind the helpers
  abbrev pub s0 : Numbering
  s0 = unnumbered nodes

  abbrev pub s1 : Numbering
  s1 = fold (full nodes) s0 p.scene.roots

  abbrev pub s2 : Numbering
  s2 = fold (full nodes) s1 p.scene.helpers

  run : numbering nodes p.scene.roots p.scene.helpers ≡ fold (full nodes) s0 (p.scene.roots ++ p.scene.helpers)
  unfolding numbering
  run = refl

  pub order_is : numbering nodes p.scene.roots p.scene.helpers ≡ in_place (length nodes) → s2.order ≡ range_with_len 0 (length nodes)
  order_is numbered = ap (λ (s : Numbering). s.order) (sym (fold-append (full nodes) s0 p.scene.roots p.scene.helpers) ∙ (sym run ∙ numbered))

  abbrev pub roots_made : Grows (List Statement)
  roots_made = each (root_tree (tree p)) s0.opened p.scene.roots

  pub roots_are : Stand → roots_of p ≡ roots_made
  roots_are stand = ap (λ (k : ℕ). each (root_tree (tree p)) (replicate k false) p.scene.roots) (sym stand.many)

-- ---- a document's scene

abbrev pub plan : SceneView → List Route → List Fields → PlanView
plan s routes state = record { scene = s; routes = routes; state = state; named = named s routes }

pub as_many : (s : SceneView) → length (holders s) ≡ length s.nodes
as_many s = length-map s.nodes _

module _ (flat : Flat) (s : SceneView) (is : scene_of flat ≡ Ok s) where
  pub stands : (routes : List Route) (state : List Fields) → AreKeepable state → Stand (plan s routes state) (holders s)
  stands routes state kept = record {
    many = as_many s;
    shown = λ n node at. shown_are flat s is (plan s routes state) refl kept n node at ∙ sym (holders_have s n node at);
    shallow = λ depth n node at h. subst (AllByRecursion (IsShallow s depth)) (sym (holders_have s n node at)) (shallow_children s depth n node at h);
  }

  pub numbered : numbering (holders s) s.roots s.helpers ≡ in_place (length (holders s))
  numbered = all_numbered_again flat s (holders s) is (as_many s) (holders_have s)

  pub roots_there : AllByRecursion (λ (n : ℕ). n < length s.nodes) s.roots
  roots_there = roots_low flat s (scene_is flat s is)

  pub helpers_there : AllByRecursion (λ (n : ℕ). n < length s.nodes) s.helpers
  helpers_there = helpers_low flat s (scene_is flat s is)
