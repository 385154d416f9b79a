-- What the fields of a document's scene were given: values in their ranges, and nodes of their
-- kinds.
use Rattle.std.proofs.Common.{◌≡◌, ℕ, zero, suc, ◌+◌, Bool, true, false, not, ◌&&◌, if◌then◌else◌, List, [], ◌∷◌, ◌++◌, codes, nat_eq, length, map, Option, Some, None, Result, Ok, Err, slice_get, refl, sym, ap, subst, ◌∙◌, ◌⊎◌, inl, inr, arith}
use Rattle.std.specs.Cmp.Lexicographic.{pointwise}
use Rattle.std.specs.List.{AllByRecursion, list_all}
use Rattle.std.specs.Option.{option_map_or}
use denote.Enum.Bare.{sameb}
use Rattle.x3d_values.specs.contracts.node_type.NodeKind as kinds
use Rattle.x3d_values.specs.declared.node_type.NodeKind.{NodeKind}
use Rattle.x3d_values.specs.declared.node_type.NodeKind.TheVariants.{Child}
use Rattle.x3d_values.specs.declared.node_type.NodeType.{NodeType}
use Rattle.x3d_values.specs.declared.value.Value.{Value}
use Rattle.x3d_values.specs.Access.{holds_nodes, is_initial}
use Rattle.x3d_values.specs.Nodes.{kind_of}
use Rattle.x3d_values.specs.Tables.{FieldRowView, rows}
use Rattle.x3d_values.specs.Values.{nodes_of}
use Rattle.proto_flat.specs.declared.flat.Flat.{Flat}
use Rattle.proto_flat.specs.declared.flat.FlatField.{FlatField}
use Rattle.proto_flat.specs.declared.flat.FlatNode.{FlatNode}
use Rattle.scene_values.specs.Typing.{called, typed}
use Rattle.scene_values.specs.Rotations.{checked_rotation}
use Rattle.scene_core.specs.declared.fault.SceneFault.{SceneFault}
use Rattle.scene_core.specs.declared.fault.SceneFaultKind.TheVariants.{BadChild, NotInitial, ValueRange}
use Rattle.scene_core.specs.declared.scene.SceneNode.{SceneNode}
use Rattle.scene_core.specs.Building.{limits, nodes_of as nodes_made, scene_of}
use Rattle.scene_core.specs.Faults.{fault, ◌>>=◌}
use Rattle.scene_core.specs.Parts.{given, inner_nodes, parts, parts_from, parts_in, parts_of}
use Rattle.scene_core.specs.Scene.{SceneView, value_at}
use Rattle.scene_core.specs.Shape.{declaration_entry, is_rotation, numbered_fields}
use Rattle.scene_core.specs.Typed.{accepted_in_range, all_children, all_taken, at_line, child, default_of, dropped_rotation, field_value, in_range, takes, typed_value}
use Rattle.laws_written.proofs.Inner.{bind_is, inner_if, line_is, scene_ok_is, typed_nodes}
use Rattle.laws_written.proofs.NumberedLists.{In, all_in, in_back, in_front, in_map, some_is, within}
use Rattle.laws_written.proofs.Lower.{called_is, inside_has, root_has}
use Rattle.laws_written.proofs.NumberedScenes.{IsSceneOf, found, label_in, numbers_of, scene_is}
use Rattle.laws_written.proofs.Visits.{Edge, Has}
use Rattle.laws_written.proofs.Made.{IsNode, node_is, value_in}
use Rattle.laws_written.proofs.Present.{value_by_node}

-- a node of that type goes into a field of that kind
abbrev pub goes_into : Option NodeKind → NodeType → Bool
goes_into (Some kind) t = sameb kinds.the_type (kind_of t) kind
goes_into None t = true

pub takes_is : (kind : Option NodeKind) (g : FlatNode) → takes kind (Some g) ≡ goes_into kind g.node_type
takes_is (Some kind) g = refl
takes_is None g = refl

taken : (kind : Option NodeKind) (o : Option FlatNode) → takes kind o ≡ true → (g : FlatNode) × (o ≡ Some g) × (goes_into kind g.node_type ≡ true)
taken (Some kind) None h = absurd cc
taken None None h = absurd cc
taken kind (Some g) h = (g, refl, sym (takes_is kind g) ∙ h)

-- so does that node of the scene
pub record IsOfKind (s : SceneView) (kind : Option NodeKind) (m : ℕ) : Type 0 where
  pub node : SceneNode
  pub at : slice_get s.nodes m ≡ Some node
  pub goes : goes_into kind node.node_type ≡ true

-- the value may stand in the field
pub record IsGivenTo (s : SceneView) (e : FieldRowView) (x : Value) : Type 0 where
  pub initial : is_initial e.access ≡ true
  pub ranged : in_range e.name x ≡ true
  pub kinds_are : AllByRecursion (IsOfKind s e.kind) (nodes_of x)

both : (a b : Bool) → (a && b) ≡ true → (a ≡ true) × (b ≡ true)
both true b e = (refl, e)
both false b e = absurd cc

all_of : (f : ℕ → Bool) (ns : List ℕ) → list_all f ns ≡ true → (y : ℕ) → In y ns → f y ≡ true
all_of f [] h y n = absurd n
all_of f (m ∷ ns) h y (inl e) = subst (λ (z : ℕ). f z ≡ true) (sym e) (both (f m) (list_all f ns) h).0
all_of f (m ∷ ns) h y (inr n) = all_of f ns (both (f m) (list_all f ns) h).1 y n

tests_are : (r a b : Bool) (x y z : SceneFault) (k v : Option Value) → (if r then (if not a then Err x else (if b then Ok k else Err y)) else Err z) ≡ Ok v
    → (r ≡ true) × (a ≡ true) × (b ≡ true) × (k ≡ v)
tests_are false a b x y z k v h = absurd cc
tests_are true false b x y z k v h = absurd cc
tests_are true true false x y z k v h = absurd cc
tests_are true true true x y z k v h = (refl, refl, refl, scene_ok_is k v h)

none_some : (x : Value) (o : Option Value) → o ≡ None → o ≡ Some x → ⊥
none_some x o h k = absurd cc

inner_of : (holds : Bool) (ns : List ℕ) (y : ℕ) → In y (inner_if holds ns) → In y ns
inner_of true ns y n = n
inner_of false ns y n = absurd n

-- ---- a field as it was read

module _ (s : SceneView) (all : List FlatNode) (numbers : List ℕ) (e : FieldRowView) (x : Value) where
  abbrev AreOfKind : Option FlatField → Type 0
  AreOfKind o = (y : ℕ) → In y (parts_in e.field_type o) → takes e.kind (slice_get all y) ≡ true → IsOfKind s e.kind (called numbers y)

  given_to : (f : FlatField) (y : Value) → AreOfKind (Some f) → typed e.field_type f.value numbers ≡ Ok y → accepted_in_range all e f y ≡ Ok (Some x) → IsGivenTo s e x
  given_to f y k t h =
      let a = tests_are (in_range e.name y) (is_initial e.access) (all_taken e.kind all (inner_nodes f.value)) (fault NotInitial f.line) (fault BadChild f.line) (fault ValueRange f.line)
      (Some y) (Some x) h in
      let same : y ≡ x = some_is y x a.3 in
      let inside : nodes_of x ≡ map (called numbers) (inner_if (holds_nodes e.field_type) (inner_nodes f.value)) =
      ap nodes_of (sym same) ∙ typed_nodes numbers e.field_type f.value y t in
      record {
        initial = a.1;
        ranged = subst (λ (z : Value). in_range e.name z ≡ true) same a.0;
        kinds_are = subst (AllByRecursion (IsOfKind s e.kind)) (sym inside)
            (all_in (IsOfKind s e.kind) (map (called numbers) (inner_if (holds_nodes e.field_type) (inner_nodes f.value))) (λ m n.
            (let i = in_map (called numbers) m (inner_if (holds_nodes e.field_type) (inner_nodes f.value)) n in
            let own = inner_of (holds_nodes e.field_type) (inner_nodes f.value) i.0 i.1 in
            subst (IsOfKind s e.kind) (sym i.2)
            (k i.0 i.1 (all_of (λ n. takes e.kind (slice_get all n)) (inner_nodes f.value) a.2 i.0 own)))));
      }

  pub field_given : (o : Option FlatField) → AreOfKind o → field_value all numbers e o ≡ Ok (Some x) → (default_of e ≡ Some x) ⊎ IsGivenTo s e x
  unfolding field_value
  field_given None k h = inl (scene_ok_is (default_of e) (Some x) h)
  field_given (Some f) k h = by_rotation (is_rotation e.field_type) h where
    by_rotation : (b : Bool) → (if b then dropped_rotation e f else (typed_value numbers e.field_type f >>= accepted_in_range all e f)) ≡ Ok (Some x)
        → (default_of e ≡ Some x) ⊎ IsGivenTo s e x
    by_rotation true h =
        let b = bind_is (at_line f.line (checked_rotation f.value (pointwise nat_eq e.name (codes "orientation")))) (λ _. Ok None) (Some x) h in
        absurd (none_some x None refl (scene_ok_is None (Some x) b.2))
    by_rotation false h =
        let b = bind_is (typed_value numbers e.field_type f) (accepted_in_range all e f) (Some x) h in
        inr (given_to f b.0 k (line_is f.line (typed e.field_type f.value numbers) b.0 b.1) b.2)

-- ---- which nodes stand in a node

parts_at : (y : ℕ) (fields : List FlatField) (number : ℕ) (es : List FieldRowView) (i : ℕ) (e : FieldRowView) → slice_get es i ≡ Some e
    → In y (parts_in e.field_type (given fields (number + i))) → In y (parts_from fields number es)
parts_at y fields number [] i e at n = absurd cc
parts_at y fields number (x ∷ es) zero e at n =
    let here : number + 0 ≡ number = omega arith in
    in_front y (parts_in x.field_type (given fields number)) (parts_from fields (number + 1) es)
    (subst (λ (k : ℕ). In y (parts_in x.field_type (given fields k))) here
    (subst (λ (z : FieldRowView). In y (parts_in z.field_type (given fields (number + 0)))) (sym (some_is x e at)) n))
parts_at y fields number (x ∷ es) (suc i) e at n =
    let there : number + suc i ≡ number + 1 + i = omega arith in
    in_back y (parts_in x.field_type (given fields number)) (parts_from fields (number + 1) es)
    (parts_at y fields (number + 1) es i e at (subst (λ (k : ℕ). In y (parts_in e.field_type (given fields k))) there n))

-- ---- a scene

abbrev done : Result (Unit {0}) SceneFault
done = Ok tt

passed : (b : Bool) (e : SceneFault) → (if b then done else Err e) ≡ done → b ≡ true
passed true e h = refl
passed false e h = absurd cc

children_taken : (nodes : List FlatNode) (ns : List ℕ) → all_children nodes ns ≡ Ok tt → (y : ℕ) → In y ns → takes (Some Child) (slice_get nodes y) ≡ true
unfolding child
children_taken nodes [] h y n = absurd n
children_taken nodes (m ∷ ns) h y (inl e) =
    let b = bind_is (child nodes m) (λ _. all_children nodes ns) tt h in
    subst (λ (z : ℕ). takes (Some Child) (slice_get nodes z) ≡ true) (sym e) (passed (takes (Some Child) (slice_get nodes m)) _ b.1)
children_taken nodes (m ∷ ns) h y (inr n) =
    let b = bind_is (child nodes m) (λ _. all_children nodes ns) tt h in children_taken nodes ns b.2 y n

module _ (from : Flat) (s : SceneView) (is_scene : scene_of from ≡ Ok s) where
  scene : IsSceneOf from s
  scene = scene_is from s is_scene

  abbrev numbers : List ℕ
  numbers = (numbers_of from).numbers

  -- a node that has a number, by its type
  kind_is : (kind : Option NodeKind) (y : ℕ) → Has (numbers_of from) y → takes kind (slice_get from.nodes y) ≡ true → IsOfKind s kind (called numbers y)
  kind_is kind y has t =
      let m = scene.each has.0 y has.1 in
      let g = taken kind (slice_get from.nodes y) t in
      let same : g.0 ≡ m.flat = some_is g.0 m.flat (sym g.1 ∙ m.flat_is) in
      let is = node_is from.nodes numbers (label_in from has.0) m.flat m.node m.made in
      record {
        node = m.node;
        at = ap (λ (k : ℕ). slice_get s.nodes k) (called_is from s scene has.0 y has.1) ∙ m.node_is;
        goes = ap (goes_into kind) (is.node_type ∙ ap (λ (f : FlatNode). f.node_type) (sym same)) ∙ g.2;
      }

  -- ---- a field of the node's type

  row_of : (i y : ℕ) (flat : FlatNode) → slice_get (numbers_of from).order i ≡ Some y → slice_get from.nodes y ≡ Some flat → (node : SceneNode)
      → IsNode from.nodes numbers (label_in from i) flat node → (k : ℕ) (e : FieldRowView) → slice_get (rows flat.node_type) k ≡ Some e
      → (x : Value) → value_in node.values k ≡ Some x → (default_of e ≡ Some x) ⊎ IsGivenTo s e x
  unfolding parts_of
  row_of i y flat at flat_is node m k e row x held =
      field_given s from.nodes numbers e x (given flat.fields k)
      (λ z n t. kind_is e.kind z (inside_has from s scene i y z at (edge z n t)) t)
      (m.row k e row ∙ ap (λ (o : Option Value). Ok o) held) where
        edge : (z : ℕ) → In z (parts_in e.field_type (given flat.fields k)) → takes e.kind (slice_get from.nodes z) ≡ true → Edge from.nodes y z
        edge z n t =
            let g = taken e.kind (slice_get from.nodes z) t in
            let here : k ≡ 0 + k = omega arith in
            let inside : In z (parts flat) =
            in_front z (parts_from flat.fields 0 (rows flat.node_type))
            (parts_from flat.fields (length (rows flat.node_type)) (map declaration_entry (numbered_fields flat.node_type flat.interface)))
            (parts_at z flat.fields 0 (rows flat.node_type) k e row (subst (λ (j : ℕ). In z (parts_in e.field_type (given flat.fields j))) here n)) in (
              subst (λ (o : Option FlatNode). In z (option_map_or parts o [])) (sym flat_is) inside,
              within from.nodes z g.0 g.1,
            )

  pub row_by : (n : ℕ) (node : SceneNode) → slice_get s.nodes n ≡ Some node → (k : ℕ) (e : FieldRowView) → slice_get (rows node.node_type) k ≡ Some e
      → (x : Value) → value_at s n k ≡ Some x → (default_of e ≡ Some x) ⊎ IsGivenTo s e x
  row_by n node is k e row x held =
      let l = within s.nodes n node is in
      let f = found (numbers_of from).order n (omega (arith, l, scene.many)) in
      let m = scene.each n f.0 f.1 in
      let same : m.node ≡ node = some_is m.node node (sym m.node_is ∙ is) in
      let made : IsNode from.nodes numbers (label_in from n) m.flat node =
      subst (λ (o : SceneNode). IsNode from.nodes numbers (label_in from n) m.flat o) same (node_is from.nodes numbers (label_in from n) m.flat m.node m.made) in
      row_of n f.0 m.flat f.1 m.flat_is node made k e (ap (λ (t : NodeType). slice_get (rows t) k) (sym made.node_type) ∙ row) x
      (sym (value_by_node s n node k is) ∙ held)

  -- ---- roots and helpers

  abbrev viewed : List SceneNode → SceneView
  viewed nodes = record {
    header = from.header;
    nodes = nodes;
    roots = map (called numbers) from.roots;
    helpers = map (called numbers) from.helpers;
    opened = (numbers_of from).opened;
    numbers = numbers;
  }

  abbrev limited : List SceneNode → Result SceneView SceneFault
  limited nodes = limits nodes (map (called numbers) from.roots) >>= λ _. Ok (viewed nodes)

  abbrev with_helpers : List SceneNode → Result SceneView SceneFault
  with_helpers nodes = all_children from.nodes from.helpers >>= λ _. limited nodes

  abbrev with_roots : List SceneNode → Result SceneView SceneFault
  with_roots nodes = all_children from.nodes from.roots >>= λ _. with_helpers nodes

  given_children : (all_children from.nodes from.roots ≡ Ok tt) × (all_children from.nodes from.helpers ≡ Ok tt)
  unfolding scene_of
  given_children =
      let a = bind_is (nodes_made from.nodes (numbers_of from)) with_roots s is_scene in
      let b = bind_is (all_children from.nodes from.roots) (λ _. with_helpers a.0) s a.2 in
      let c = bind_is (all_children from.nodes from.helpers) (λ _. limited a.0) s b.2 in
      (b.1, c.1)

  called_kind : (ns : List ℕ) → all_children from.nodes ns ≡ Ok tt → ((y : ℕ) → In y ns → In y (from.roots ++ from.helpers))
      → AllByRecursion (IsOfKind s (Some Child)) (map (called numbers) ns)
  called_kind ns h k =
      all_in (IsOfKind s (Some Child)) (map (called numbers) ns) (λ m n.
      (let i = in_map (called numbers) m ns n in
      subst (IsOfKind s (Some Child)) (sym i.2)
      (kind_is (Some Child) i.0 (root_has from s scene i.0 (k i.0 i.1)) (children_taken from.nodes ns h i.0 i.1))))

  pub roots_kind : AllByRecursion (IsOfKind s (Some Child)) s.roots
  roots_kind =
      subst (AllByRecursion (IsOfKind s (Some Child))) (sym scene.roots)
      (called_kind from.roots given_children.0 (λ y n. in_front y from.roots from.helpers n))

  pub helpers_kind : AllByRecursion (IsOfKind s (Some Child)) s.helpers
  helpers_kind =
      subst (AllByRecursion (IsOfKind s (Some Child))) (sym scene.helpers)
      (called_kind from.helpers given_children.1 (λ y n. in_back y from.roots from.helpers n))
