-- What the nodes of a document's scene keep before any event is in the range of its field.
use Rattle.std.proofs.Common.{◌≡◌, ℕ, zero, suc, Bool, true, false, ◌&&◌, if◌then◌else◌, List, [], ◌∷◌, map, Option, Some, None, slice_get, refl, sym, ap, ◌∙◌, ◌⊎◌, inl, inr}
use Rattle.std.specs.Prelude.{option_map, zip}
use Rattle.std.specs.List.{AllByRecursion, list_all}
use Rattle.std.specs.Option.{option_map_or}
use Rattle.std.proofs.lemmas.Option.{slice_get-map}
use Rattle.x3d_values.specs.declared.fields.Fields.{Fields}
use Rattle.x3d_values.specs.declared.node_type.NodeType.{NodeType}
use Rattle.x3d_values.specs.declared.node_type.NodeType.TheVariants.{Group}
use Rattle.x3d_values.specs.declared.value.Value.{Value}
use Rattle.x3d_values.specs.Access.{is_kept}
use Rattle.x3d_values.specs.Kept.{field_value}
use Rattle.x3d_values.specs.Tables.{FieldRowView, rows}
use Rattle.scene_core.specs.declared.scene.SceneNode.{SceneNode}
use Rattle.scene_core.specs.Scene.{SceneView, fields_of, kept, shape_of, state_of, type_at, value_at}
use Rattle.scene_core.specs.Shape.{rows_of}
use Rattle.scene_core.specs.Typed.{default_of, in_range}
use Rattle.laws_written.proofs.NumberedLists.{at_map, some_is}
use Rattle.laws_written.proofs.Lists.{all_at}
use Rattle.laws_written.proofs.Made.{value_in}
use Rattle.laws_written.proofs.Present.{value_by_node}
use Rattle.laws_written.specs.Exist.{OpeningsAreInRange}
use Rattle.laws_written.proofs.Standing.{IsGivenTo, row_by}

-- ---- defaults

abbrev ranged : FieldRowView → Bool
ranged e = option_map_or (in_range e.name) (default_of e) true

rows_ranged : (t : NodeType) → list_all ranged (rows t) ≡ true
rows_ranged Group = refl
rows_ranged _ = refl

both : (a b : Bool) → (a && b) ≡ true → (a ≡ true) × (b ≡ true)
both true b e = (refl, e)
both false b e = absurd cc

each_ranged : (es : List FieldRowView) → list_all ranged es ≡ true → AllByRecursion (λ (e : FieldRowView). ranged e ≡ true) es
each_ranged [] h = tt
each_ranged (e ∷ es) h = let b = both (ranged e) (list_all ranged es) h in (b.0, each_ranged es b.1)

default_ranged : (t : NodeType) (i : ℕ) (e : FieldRowView) (v : Value) → slice_get (rows t) i ≡ Some e → default_of e ≡ Some v → in_range e.name v ≡ true
default_ranged t i e v at held =
    ap (λ (o : Option Value). option_map_or (in_range e.name) o true) (sym held)
    ∙ all_at (λ (x : FieldRowView). ranged x ≡ true) (rows t) i e (each_ranged (rows t) (rows_ranged t)) at

-- ---- what is kept

kept_some : (b : Bool) (o : Option Value) (v : Value) → (if b then o else None) ≡ Some v → o ≡ Some v
kept_some true o v h = h
kept_some false o v h = absurd cc

kept_in : (es : List FieldRowView) (os : List (Option Value)) (field : ℕ) (v : Value) → value_in (map (λ p. kept p.0 p.1) (zip es os)) field ≡ Some v → value_in os field ≡ Some v
kept_in [] os field v h = absurd cc
kept_in (e ∷ es) [] field v h = absurd cc
kept_in (e ∷ es) (o ∷ os) zero v h = kept_some (is_kept e.access e.field_type) o v h
kept_in (e ∷ es) (o ∷ os) (suc field) v h = kept_in es os field v h

type_is : (s : SceneView) (n : ℕ) (t : NodeType) (node : SceneNode) → slice_get s.nodes n ≡ Some node → type_at s n ≡ Some t → t ≡ node.node_type
type_is s n t node is at =
    some_is t node.node_type
    (sym at ∙ (slice_get-map (λ (m : SceneNode). m.node_type) s.nodes n ∙ ap (λ (o : Option SceneNode). option_map (λ (m : SceneNode). m.node_type) o) is))

pub openings_in_range : OpeningsAreInRange
unfolding state_of
openings_in_range flat s is n field t e fields v typed row here held =
    let f = at_map fields_of s.nodes n fields here in
    let there : value_in (fields_of f.0).values field ≡ Some v = ap (λ (x : Fields). field_value x field) (sym f.2) ∙ held in
    let given : value_at s n field ≡ Some v = value_by_node s n f.0 field f.1 ∙ kept_in (rows_of (shape_of f.0)) f.0.values field v there in
    let own : slice_get (rows f.0.node_type) field ≡ Some e = ap (λ (u : NodeType). slice_get (rows u) field) (sym (type_is s n t f.0 f.1 typed)) ∙ row in
    by_given (row_by flat s is n f.0 f.1 field e own v given) where
      by_given : (default_of e ≡ Some v) ⊎ IsGivenTo s e v → in_range e.name v ≡ true
      by_given (inl same) = default_ranged t field e v row same
      by_given (inr g) = g.ranged
