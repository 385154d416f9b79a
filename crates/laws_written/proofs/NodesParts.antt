-- Nodes in which stand the nodes that stand in the nodes of a scene, and what is known of these.
use Rattle.std.proofs.Common.{◌≡◌, ℕ, zero, suc, ◌+◌, ◌<◌, List, [], ◌∷◌, ◌++◌, length, map, take, Option, Some, None, Ok, slice_get, refl, sym, ap, subst, ◌∙◌, arith, append-nil}
use Rattle.std.specs.Prelude.{option_map}
use Rattle.std.specs.List.{AllByRecursion, flat_map, range_with_len}
use Rattle.std.specs.Option.{option_and_then, option_map_or}
use Rattle.std.proofs.lemmas.List.{length-append, length-map, take-map}
use Rattle.std.proofs.lemmas.Option.{slice_get-map}
use Rattle.x3d_values.specs.declared.node_type.NodeType.{NodeType}
use Rattle.x3d_values.specs.declared.node_type.NodeType.TheVariants.{Group}
use Rattle.x3d_values.specs.declared.value.Value.{Value}
use Rattle.x3d_values.specs.Ranges.{max_depth}
use Rattle.x3d_values.specs.Tables.{FieldRowView, rows}
use Rattle.classic_tree.specs.declared.tree.Declaration.{Declaration}
use Rattle.classic_tree.specs.declared.tree.RawValue.TheVariants.{NodeList}
use Rattle.proto_flat.specs.declared.flat.Flat.{Flat}
use Rattle.proto_flat.specs.declared.flat.FlatField.{FlatField}
use Rattle.proto_flat.specs.declared.flat.FlatNode.{FlatNode}
use Rattle.scene_core.specs.declared.row.DeclaredField.{DeclaredField}
use Rattle.scene_core.specs.declared.scene.SceneNode.{SceneNode}
use Rattle.scene_core.specs.Deep.{linked}
use Rattle.scene_core.specs.Parts.{parts, parts_from, parts_of}
use Rattle.scene_core.specs.Scene.{SceneView, rows_at, shape_of, value_at}
use Rattle.scene_core.specs.Shape.{Shape, declaration_entry, declared_by, declared_entry, most_declared, numbered_fields, rows_of}
use Rattle.scene_text.specs.Places.{nodes_within}
use Rattle.scene_text.specs.Tree.{PlanView, shown_fields}
use Rattle.laws_written.specs.ScenesAgain.{HaveChildren}
use Rattle.laws_written.specs.Children.{children}
use Rattle.laws_written.proofs.NumberedLists.{some_is, within}
use Rattle.laws_written.proofs.Lower.{children_lower}
use Rattle.laws_written.proofs.NumberedScenes.{IsSceneOf, found, label_in, numbers_of, scene_is}
use Rattle.scene_core.specs.Building.{scene_of}
use Rattle.laws_written.specs.Writable.{AreKeepable, IsShallow}
use Rattle.laws_written.proofs.Chains.{IsClosedNode, all_shallow}
use Rattle.laws_written.proofs.Lists.{all_weaker}
use Rattle.laws_written.proofs.OrderFields.{FitDeclared, FitRows, HasValues, has_values}
use Rattle.laws_written.proofs.OrderShown.{links, shown_links}

-- ---- a node in which these stand

abbrev pub holder : List ℕ → FlatNode
holder ns = record {
  line = 0;
  name = None;
  node_type = Group;
  fields = record { line = 0; number = 3; value = NodeList ns } ∷ [];
  interface = [];
}

none_taken : (k : ℕ) (fields : List FlatField) (number : ℕ) → parts_from fields number (map declaration_entry (take k [])) ≡ []
none_taken zero fields number = refl
none_taken (suc k) fields number = refl

holder_parts : (ns : List ℕ) → parts (holder ns) ≡ ns
holder_parts ns =
    let fields : List FlatField = (holder ns).fields in
    ap (λ (l : List ℕ). parts_from fields 0 (rows Group) ++ l) (none_taken (most_declared Group) fields (length (rows Group)))
    ∙ (append-nil (ns ++ []) ∙ append-nil ns)

abbrev pub holders : SceneView → List FlatNode
holders s = map (λ (n : SceneNode). holder (children n)) s.nodes

pub holders_have : (s : SceneView) → HaveChildren s (holders s)
unfolding parts_of
holders_have s n node is =
    let at : slice_get (holders s) n ≡ Some (holder (children node)) =
    slice_get-map (λ (n : SceneNode). holder (children n)) s.nodes n
    ∙ ap (λ (o : Option SceneNode). option_map (λ (n : SceneNode). holder (children n)) o) is in
    ap (λ (o : Option FlatNode). option_map_or parts o []) at ∙ holder_parts (children node)

-- ---- all that stand in a node

pub all_join : {A : Type 0} (P : A → Type 0) (xs ys : List A) → AllByRecursion P xs → AllByRecursion P ys → AllByRecursion P (xs ++ ys)
all_join P [] ys h k = k
all_join P (x ∷ xs) ys h k = (h.0, all_join P xs ys h.1 k)

all_placed : {A : Type 0} (P : A → Type 0) (xs : List A) → ((n : ℕ) (x : A) → slice_get xs n ≡ Some x → P x) → AllByRecursion P xs
all_placed P [] k = tt
all_placed P (x ∷ xs) k = (k 0 x refl, all_placed P xs (λ n y at. k (suc n) y at))

all_linked : (P : ℕ → Type 0) (values : List (Option Value)) → ((field : ℕ) → AllByRecursion P (linked (option_and_then (λ v. v) (slice_get values field))))
    → AllByRecursion P (flat_map linked values)
all_linked P [] k = tt
all_linked P (v ∷ values) k = all_join P (linked v) (flat_map linked values) (k 0) (all_linked P values (λ field. k (suc field)))

-- by the fields that the scene gives
all_children : (s : SceneView) (P : ℕ → Type 0) (n : ℕ) (node : SceneNode) → slice_get s.nodes n ≡ Some node
    → ((field : ℕ) → AllByRecursion P (linked (value_at s n field))) → AllByRecursion P (children node)
all_children s P n node is k =
    all_linked P node.values (λ field.
    subst (λ (o : Option SceneNode). AllByRecursion P (linked (option_and_then (λ (m : SceneNode). option_and_then (λ v. v) (slice_get m.values field)) o))) is (k field))

pub shallow_children : (s : SceneView) (depth n : ℕ) (node : SceneNode) → slice_get s.nodes n ≡ Some node → IsShallow s (suc depth) n
    → AllByRecursion (IsShallow s depth) (children node)
unfolding IsShallow
shallow_children s depth n node is h = all_children s (IsShallow s depth) n node is h.1

-- ---- as many values as rows

fit_rows_many : (es : List FieldRowView) (vs : List (Option Value)) → FitRows es vs → length vs ≡ length es
fit_rows_many [] [] f = refl
fit_rows_many [] (v ∷ vs) f = absurd f
fit_rows_many (e ∷ es) [] f = absurd f
fit_rows_many (e ∷ es) (v ∷ vs) f = ap (λ (k : ℕ). suc k) (fit_rows_many es vs f.1)

fit_declared_many : (ds : List (Declaration ℕ)) (vs : List (Option Value)) → FitDeclared ds vs → length vs ≡ length ds
fit_declared_many [] [] f = refl
fit_declared_many [] (v ∷ vs) f = absurd f
fit_declared_many (d ∷ ds) [] f = absurd f
fit_declared_many (d ∷ ds) (v ∷ vs) f = ap (λ (k : ℕ). suc k) (fit_declared_many ds vs f.1)

abbrev rows_by : NodeType → List DeclaredField → List FieldRowView
rows_by t declared = rows t ++ map declared_entry (numbered_fields t declared)

values_many : (flat : FlatNode) (node : SceneNode) → HasValues flat node → length node.values ≡ length (rows_of (shape_of node))
values_many flat node h =
    let t : NodeType = flat.node_type in
    let own = fit_rows_many (rows t) h.own h.own_fit in
    let more = fit_declared_many (numbered_fields t flat.interface) h.more h.more_fit in
    let values = ap (λ (l : List (Option Value)). length l) h.values in
    let both = length-append h.own h.more in
    let all : rows_of (shape_of node) ≡ rows_by t (map declared_by flat.interface) =
    ap (λ (k : NodeType). rows_by k node.declared) h.node_type ∙ ap (λ (l : List DeclaredField). rows_by t l) h.declared in
    let long = ap (λ (l : List FieldRowView). length l) all in
    let apart = length-append (rows t) (map declared_entry (numbered_fields t (map declared_by flat.interface))) in
    let first = length-map (numbered_fields t (map declared_by flat.interface)) declared_entry in
    let second = ap (λ (l : List DeclaredField). length l) (take-map declared_by (most_declared t) flat.interface) in
    let third = length-map (numbered_fields t flat.interface) declared_by in
    omega (arith, own, more, values, both, long, apart, first, second, third)

-- the nodes in the values are those in the fields by their numbers
values_linked : (f : ℕ → List ℕ) (values : List (Option Value)) (from : ℕ) → ((i : ℕ) (v : Option Value) → slice_get values i ≡ Some v → f (from + i) ≡ linked v)
    → flat_map f (range_with_len from (length values)) ≡ flat_map linked values
values_linked f [] from k = refl
values_linked f (v ∷ values) from k =
    let here : from + 0 ≡ from = omega arith in
    let first : f from ≡ linked v = ap f (sym here) ∙ k 0 v refl in
    let rest = values_linked f values (from + 1) (λ i w at.
    (let e : from + 1 + i ≡ from + suc i = omega arith in ap f e ∙ k (suc i) w at)) in
    ap (λ (l : List ℕ). l ++ flat_map f (range_with_len (from + 1) (length values))) first
    ∙ ap (λ (l : List ℕ). linked v ++ l) rest

-- ---- a document's scene

module _ (flat : Flat) (s : SceneView) (is_scene : scene_of flat ≡ Ok s) where
  scene : IsSceneOf flat s
  scene = scene_is flat s is_scene

  -- of which node of the document it was made
  made_of : (n : ℕ) (node : SceneNode) → slice_get s.nodes n ≡ Some node → (from : FlatNode) × HasValues from node
  made_of n node is =
      let l = within s.nodes n node is in
      let f = found (numbers_of flat).order n (omega (arith, l, scene.many)) in
      let m = scene.each n f.0 f.1 in
      let same : m.node ≡ node = some_is m.node node (sym m.node_is ∙ is) in
      (m.flat, subst (λ (o : SceneNode). HasValues m.flat o) same (has_values flat.nodes (numbers_of flat).numbers (label_in flat n) m.flat m.node m.made))

  pub shown_are : (p : PlanView) → p.scene ≡ s → AreKeepable p.state → (n : ℕ) (node : SceneNode) → slice_get p.scene.nodes n ≡ Some node
      → flat_map links (shown_fields p n node.node_type) ≡ children node
  shown_are p e kept n node is =
      let m = made_of n node (subst (λ (v : SceneView). slice_get v.nodes n ≡ Some node) e is) in
      shown_links p n node kept is m.0 m.1

  pub lower_children : (n : ℕ) (node : SceneNode) → slice_get s.nodes n ≡ Some node → AllByRecursion (λ (m : ℕ). m < n) (children node)
  lower_children n node is = all_children s (λ (m : ℕ). m < n) n node is (children_lower flat s is_scene n)

  rows_are : (n : ℕ) (node : SceneNode) → slice_get s.nodes n ≡ Some node → rows_at s n ≡ rows_of (shape_of node)
  rows_are n node is =
      ap (λ (o : Option Shape). option_map_or rows_of o [])
      (slice_get-map shape_of s.nodes n ∙ ap (λ (o : Option SceneNode). option_map shape_of o) is)

  pub within_are : (n : ℕ) (node : SceneNode) → slice_get s.nodes n ≡ Some node → nodes_within s n ≡ children node
  within_are n node is =
      let m = made_of n node is in
      let many : length (rows_at s n) ≡ length node.values =
      ap (λ (l : List FieldRowView). length l) (rows_are n node is) ∙ sym (values_many m.0 node m.1) in
      ap (λ (k : ℕ). flat_map (λ number. linked (value_at s n number)) (range_with_len 0 k)) many
      ∙ values_linked (λ number. linked (value_at s n number)) node.values 0 (λ i v at.
      (let e : 0 + i ≡ i = omega arith in
      ap (λ (k : ℕ). linked (value_at s n k)) e
      ∙ (ap (λ (o : Option SceneNode). linked (option_and_then (λ (m : SceneNode). option_and_then (λ v. v) (slice_get m.values i)) o)) is
      ∙ ap (λ (o : Option (Option Value)). linked (option_and_then (λ v. v) o)) at)))

  -- ---- chains

  closed : AllByRecursion (IsClosedNode (length s.nodes)) s.nodes
  closed = all_placed (IsClosedNode (length s.nodes)) s.nodes (λ n node is.
      all_placed (λ (o : Option Value). AllByRecursion (λ (m : ℕ). m < length s.nodes) (linked o)) node.values
      (λ field o at. field_closed n node field o is at)) where
        field_closed : (n : ℕ) (node : SceneNode) (field : ℕ) (o : Option Value) → slice_get s.nodes n ≡ Some node → slice_get node.values field ≡ Some o
            → AllByRecursion (λ (m : ℕ). m < length s.nodes) (linked o)
        field_closed n node field o is at =
            let l = within s.nodes n node is in
            let same : value_at s n field ≡ o =
            ap (λ (q : Option SceneNode). option_and_then (λ (m : SceneNode). option_and_then (λ v. v) (slice_get m.values field)) q) is
            ∙ ap (λ (q : Option (Option Value)). option_and_then (λ v. v) q) at in
            subst (λ (q : Option Value). AllByRecursion (λ (m : ℕ). m < length s.nodes) (linked q)) same
            (all_weaker (λ (m : ℕ). m < n) (λ (m : ℕ). m < length s.nodes) (λ m k. omega (arith, k, l)) (linked (value_at s n field))
            (children_lower flat s is_scene n field))

  pub low_shallow : (n : ℕ) → n < length s.nodes → IsShallow s max_depth n
  low_shallow n l = all_shallow s closed scene.shallow n l
