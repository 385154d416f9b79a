-- What a scene holds before any event is of its fields' types, and sound where its document's names and texts are.
use Rattle.std.proofs.Common.{◌≡◌, ℕ, zero, suc, Bool, true, false, ◌&&◌, if◌then◌else◌, List, [], ◌∷◌, map, Option, Some, None, slice_get, refl, sym, ap, subst, ◌∙◌}
use Rattle.std.specs.Prelude.{zip}
use Rattle.std.specs.List.{list_all}
use Rattle.std.specs.Option.{option_and_then}
use Rattle.x3d_values.specs.declared.fields.Fields.{Fields}
use Rattle.x3d_values.specs.declared.node_type.NodeType.{NodeType}
use Rattle.x3d_values.specs.declared.value.Value.{Value}
use Rattle.x3d_values.specs.Access.{is_kept}
use Rattle.x3d_values.specs.Kept.{field_value}
use Rattle.x3d_values.specs.Tables.{AreTyped, FieldRowView, rows}
use Rattle.scene_core.specs.declared.scene.SceneNode.{SceneNode}
use Rattle.scene_core.specs.Scene.{SceneView, fields_of, kept, shape_of, state_of, value_at}
use Rattle.scene_core.specs.Shape.{rows_of}
use Rattle.laws_written.specs.Values.{is_sound}
use Rattle.laws_written.specs.Writable.{is_sound_or_none}
use Rattle.laws_written.proofs.Scenes.{nodes_are_writable}
use Rattle.laws_written.proofs.NumberedLists.{at_map}
use Rattle.laws_written.specs.Sound.{DocumentScenesAreSound, OpeningsAreOfType}
use Rattle.laws_written.proofs.Made.{value_in}
use Rattle.laws_written.proofs.Present.{given_at, value_by_node}

-- ---- sound

both : (a b : Bool) → (a && b) ≡ true → (a ≡ true) × (b ≡ true)
both true b e = (refl, e)
both false b e = absurd cc

sound_in : (values : List (Option Value)) (field : ℕ) (v : Value) → list_all is_sound_or_none values ≡ true → value_in values field ≡ Some v → is_sound v ≡ true
sound_in [] field v h e = absurd cc
sound_in (o ∷ os) zero v h e =
    let b = both (is_sound_or_none o) (list_all is_sound_or_none os) h in subst (λ (x : Option Value). is_sound_or_none x ≡ true) e b.0
sound_in (o ∷ os) (suc field) v h e = sound_in os field v (both (is_sound_or_none o) (list_all is_sound_or_none os) h).1 e

sound_at : (s : SceneView) (n field : ℕ) (v : Value) → ((node : SceneNode) → slice_get s.nodes n ≡ Some node → list_all is_sound_or_none node.values ≡ true)
    → value_at s n field ≡ Some v → is_sound v ≡ true
sound_at s n field v k e = by_node (slice_get s.nodes n) refl e where
  by_node : (o : Option SceneNode) → slice_get s.nodes n ≡ o
      → option_and_then (λ (m : SceneNode). option_and_then (λ v. v) (slice_get m.values field)) o ≡ Some v → is_sound v ≡ true
  by_node None is e = absurd cc
  by_node (Some node) is e = sound_in node.values field v (k node is) e

pub document_sound : DocumentScenesAreSound
document_sound flat s named is n field v e = sound_at s n field v (λ node at. (nodes_are_writable flat s named is n node at).sound) e

-- ---- of the field's type

kept_some : (b : Bool) (o : Option Value) (v : Value) → (if b then o else None) ≡ Some v → o ≡ Some v
kept_some true o v h = h
kept_some false o v h = absurd cc

kept_in : (es : List FieldRowView) (os : List (Option Value)) (field : ℕ) (v : Value) → value_in (map (λ p. kept p.0 p.1) (zip es os)) field ≡ Some v → value_in os field ≡ Some v
kept_in [] os field v h = absurd cc
kept_in (e ∷ es) [] field v h = absurd cc
kept_in (e ∷ es) (o ∷ os) zero v h = kept_some (is_kept e.access e.field_type) o v h
kept_in (e ∷ es) (o ∷ os) (suc field) v h = kept_in es os field v h

pub openings_of_type : ((t : NodeType) → AreTyped (rows t)) → OpeningsAreOfType
unfolding state_of
openings_of_type table flat s is n field e fields v at here held =
    let f = at_map fields_of s.nodes n fields here in
    let there : value_in (fields_of f.0).values field ≡ Some v = ap (λ (x : Fields). field_value x field) (sym f.2) ∙ held in
    let given : value_at s n field ≡ Some v = value_by_node s n f.0 field f.1 ∙ kept_in (rows_of (shape_of f.0)) f.0.values field v there in
    (given_at flat s is table n f.0 f.1 field e at).holds.typed v given
