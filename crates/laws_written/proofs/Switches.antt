-- The node in which the helpers stand, in the scene that is read again.
use Rattle.std.proofs.Common.{◌≡◌, ℕ, zero, suc, ◌+◌, ◌<◌, ◌==◌, Bool, true, false, if◌then◌else◌, List, [], ◌∷◌, length, map, take, Option, Some, None, Ok, slice_get, refl, sym, ap, subst, ◌∙◌, arith, eqb-true}
use Rattle.std.specs.List.{AllByRecursion}
use Rattle.std.specs.Option.{option_and_then}
use Rattle.x3d_values.specs.declared.field_type.FieldType.TheVariants as types
use Rattle.x3d_values.specs.declared.fields.Fields.{Fields}
use Rattle.x3d_values.specs.declared.node_type.NodeType.{NodeType}
use Rattle.x3d_values.specs.declared.node_type.NodeType.TheVariants.{Switch}
use Rattle.x3d_values.specs.declared.value.Value.{Value}
use Rattle.x3d_values.specs.declared.value.Value.TheVariants.{MFNode}
use Rattle.x3d_values.specs.Tables.{AreTyped, FieldRowView, rows}
use Rattle.x3d_values.specs.Values.{nodes_of}
use Rattle.proto_flat.specs.declared.flat.Flat.{Flat}
use Rattle.proto_flat.specs.declared.flat.FlatField.{FlatField}
use Rattle.proto_flat.specs.declared.flat.FlatNode.{FlatNode}
use Rattle.scene_values.specs.Typing.{called}
use Rattle.scene_core.specs.declared.scene.Route.{Route}
use Rattle.scene_core.specs.declared.scene.SceneNode.{SceneNode}
use Rattle.scene_core.specs.Building.{scene_of}
use Rattle.scene_core.specs.Labels.{label_by}
use Rattle.scene_core.specs.Parts.{given}
use Rattle.scene_core.specs.Scene.{SceneView}
use Rattle.scene_core.specs.Shape.{declared_by, most_declared}
use Rattle.scene_core.specs.Typed.{default_of, field_value}
use Rattle.laws_written.proofs.NumberedLists.{some_is}
use Rattle.laws_written.proofs.NumberedScenes.{found, label_in, scene_is}
use Rattle.laws_written.specs.Defaults.{LeftOutAreDefaults}
use Rattle.laws_written.specs.Values.{WrittenNodesAreTyped, is_sound}
use Rattle.laws_written.specs.Writable.{AreKeepable}
use Rattle.laws_written.proofs.Lists.{all_weaker}
use Rattle.laws_written.specs.NodesFlats.{IsFlatOf}
use Rattle.laws_written.specs.Nodes.{switch_root}
use Rattle.laws_written.proofs.Plans.{helpers_there}
use Rattle.laws_written.specs.Fields.{children_field, switch_children}
use Rattle.laws_written.specs.FieldsFlats.{HasFieldsOf}
use Rattle.laws_written.specs.Again.{IsSwitchOf, switch_value}
use Rattle.laws_written.specs.Sound.{AreOfType, AreSound}
use Rattle.laws_written.proofs.Made.{IsRowMade, value_in}
use Rattle.laws_written.proofs.Next.{called_in_place, next_many, numbers, read_is}
use Rattle.laws_written.proofs.AgainNumbered.{last_is, many}
use Rattle.laws_written.proofs.Present.{declared_by_node, value_by_node}
use Rattle.laws_written.proofs.Reading.{IsFit, given_again, nothing_again}

none_taken : {A : Type 0} (k : ℕ) (xs : List A) → xs ≡ [] → take k xs ≡ []
none_taken zero [] e = refl
none_taken (suc k) [] e = refl
none_taken k (x ∷ xs) e = absurd cc

-- the row of the children
children_type : (e : FieldRowView) → slice_get (rows Switch) switch_children ≡ Some e → types.MFNode ≡ e.field_type
children_type e at = ap (λ (y : FieldRowView). y.field_type) (some_is _ e at)

module _ (typed_again : WrittenNodesAreTyped) (left_out : LeftOutAreDefaults) (all : List FlatNode) (ns : List ℕ) (h : ℕ) (hs : List ℕ)
    (named : AllByRecursion (λ (n : ℕ). called ns n ≡ n) (h ∷ hs)) where
  fit : IsFit ns (Some (MFNode (h ∷ hs)))
  fit = record {
    sound = λ v e. subst (λ (x : Value). is_sound x ≡ true) (some_is (MFNode (h ∷ hs)) v e) refl;
    named = λ v e. subst (λ (x : Value). AllByRecursion (λ (n : ℕ). called ns n ≡ n) (nodes_of x)) (some_is (MFNode (h ∷ hs)) v e) named;
  }

  value_is : (field : ℕ) (e : FieldRowView) (v : Option Value) → slice_get (rows Switch) field ≡ Some e
      → field_value all ns e (given (children_field (h ∷ hs) ∷ []) field) ≡ Ok v → v ≡ switch_value (h ∷ hs) field e
  value_is field e v at made = by_field (switch_children == field) refl made where
    by_field : (b : Bool) → (switch_children == field) ≡ b → field_value all ns e (if b then Some (children_field (h ∷ hs)) else None) ≡ Ok v
        → v ≡ (if b then Some (MFNode (h ∷ hs)) else default_of e)
    by_field true k made =
        let here : switch_children ≡ field = eqb-true switch_children field k in
        given_again typed_again left_out all ns e switch_children (MFNode (h ∷ hs)) v
        (children_type e (ap (λ (i : ℕ). slice_get (rows Switch) i) here ∙ at)) fit made
    by_field false k made = sym (nothing_again typed_again left_out all ns e v made)

module _ (from : Flat) (s : SceneView) (routes : List Route) (state : List Fields) (again : Flat) (is_scene : scene_of from ≡ Ok s) (kept : AreKeepable state)
    (of_type : AreOfType s state) (sound : AreSound s) (table : (t : NodeType) → AreTyped (rows t)) (same : IsFlatOf s routes again) (filled : HasFieldsOf s state again)
    (none : again.helpers ≡ []) (next : SceneView) (is_next : scene_of again ≡ Ok next) (typed_again : WrittenNodesAreTyped) (left_out : LeftOutAreDefaults) where
  pub next_switch : (h : ℕ) (hs : List ℕ) → s.helpers ≡ h ∷ hs → IsSwitchOf (h ∷ hs) next (length s.nodes)
  next_switch h hs e =
      let ns : List ℕ = numbers from s routes state again is_scene kept of_type sound table same filled none next (scene_is again next is_next) typed_again left_out in
      let as_many : length again.nodes ≡ length s.nodes + 1 =
      many from s routes state again is_scene kept of_type sound table same filled none ∙ ap (λ (l : List ℕ). length s.nodes + length (switch_root (length s.nodes) l)) e in
      let next_long = next_many from s routes state again is_scene kept of_type sound table same filled none next (scene_is again next is_next) typed_again left_out in
      let g = found again.nodes (length s.nodes) (omega (arith, as_many)) in
      let m = found next.nodes (length s.nodes) (omega (arith, as_many, next_long)) in
      let a = last_is from s routes state again is_scene kept of_type sound table same filled none h hs g.0 e g.1 in
      let r = read_is from s routes state again is_scene kept of_type sound table same filled none next (scene_is again next is_next) typed_again left_out (length s.nodes) g.0 m.0 g.1 m.1 in
      let in_place = called_in_place from s routes state again is_scene kept of_type sound table same filled none next (scene_is again next is_next) typed_again left_out in
      let named : AllByRecursion (λ (n : ℕ). called ns n ≡ n) (h ∷ hs) =
      all_weaker (λ (n : ℕ). n < length s.nodes) (λ (n : ℕ). called ns n ≡ n) (λ n l. in_place n (omega (arith, as_many, l))) (h ∷ hs)
      (subst (AllByRecursion (λ (n : ℕ). n < length s.nodes)) e (helpers_there from s is_scene)) in
      let none_declared : m.0.declared ≡ [] = r.is.declared ∙ ap (map declared_by) a.interface in
      record {
        label = ap (λ (o : Option SceneNode). option_and_then (λ (x : SceneNode). x.label) o) m.1 ∙ (r.is.label ∙ ap (label_by (label_in again (length s.nodes))) a.name);
        declared = declared_by_node next (length s.nodes) m.0 m.1 ∙ none_taken (most_declared m.0.node_type) m.0.declared none_declared;
        values = λ field x at. value_by_node next (length s.nodes) m.0 field m.1
            ∙ value_is typed_again left_out again.nodes ns h hs named field x (value_in m.0.values field) at
            (row_made ns g.0 m.0 a.node_type a.fields_same r.is.row field x at);
      } where
        row_made : (ns : List ℕ) (g : FlatNode) (m : SceneNode) → g.node_type ≡ Switch → g.fields ≡ children_field (h ∷ hs) ∷ []
            → ((i : ℕ) (x : FieldRowView) → slice_get (rows g.node_type) i ≡ Some x → IsRowMade again.nodes ns g.fields x i (value_in m.values i))
            → (field : ℕ) (x : FieldRowView) → slice_get (rows Switch) field ≡ Some x
            → field_value again.nodes ns x (given (children_field (h ∷ hs) ∷ []) field) ≡ Ok (value_in m.values field)
        row_made ns g m t f k field x at =
            ap (λ (l : List FlatField). field_value again.nodes ns x (given l field)) (sym f)
            ∙ k field x (ap (λ (u : NodeType). slice_get (rows u) field) t ∙ at)
