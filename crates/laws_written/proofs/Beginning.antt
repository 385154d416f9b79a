-- What was kept when a scene was written is kept by the scene that is read again.
use Rattle.std.proofs.Common.{◌≡◌, ℕ, zero, suc, ◌<◌, Bool, true, if◌then◌else◌, List, [], ◌∷◌, length, map, Option, Some, None, slice_get, refl, sym, ap, ◌∙◌}
use Rattle.std.specs.Prelude.{option_map, zip}
use Rattle.std.specs.Option.{option_and_then, option_map_or, option_or}
use Rattle.std.proofs.lemmas.Option.{slice_get-map}
use Rattle.x3d_values.specs.declared.fields.Fields.{Fields}
use Rattle.x3d_values.specs.declared.value.Value.{Value}
use Rattle.x3d_values.specs.Access.{is_kept}
use Rattle.x3d_values.specs.Kept.{field_value}
use Rattle.x3d_values.specs.Tables.{FieldRowView}
use Rattle.scene_core.specs.declared.scene.SceneNode.{SceneNode}
use Rattle.scene_core.specs.Scene.{SceneView, fields_of, kept, rows_at, shape_of, state_of, value_at}
use Rattle.scene_core.specs.Shape.{Shape, rows_of}
use Rattle.laws_written.proofs.NumberedLists.{some_is, within}
use Rattle.laws_written.specs.Fields.{value_now}
use Rattle.laws_written.specs.Begins.{KeptAgain, kept_of}
use Rattle.laws_written.proofs.Made.{value_in}
use Rattle.laws_written.proofs.Places.{mapped_at}
use Rattle.laws_written.proofs.Present.{rows_by_node}

kept_in : (es : List FieldRowView) (os : List (Option Value)) (field : ℕ) (e : FieldRowView) (v : Value) → slice_get es field ≡ Some e → value_in os field ≡ Some v
    → value_in (map (λ p. kept p.0 p.1) (zip es os)) field ≡ kept e (Some v)
kept_in [] os field e v at held = absurd cc
kept_in (x ∷ es) [] field e v at held = absurd cc
kept_in (x ∷ es) (o ∷ os) zero e v at held = ap (λ (y : FieldRowView). kept y o) (some_is x e at) ∙ ap (kept e) held
kept_in (x ∷ es) (o ∷ os) (suc field) e v at held = kept_in es os field e v at held

no_rows : (s : SceneView) (n : ℕ) → slice_get s.nodes n ≡ None → rows_at s n ≡ []
no_rows s n is =
    ap (λ (o : Option Shape). option_map_or rows_of o [])
    (slice_get-map shape_of s.nodes n ∙ ap (λ (o : Option SceneNode). option_map shape_of o) is)

-- what has fields is a node
within_nodes : (s : SceneView) (n field : ℕ) (e : FieldRowView) → slice_get (rows_at s n) field ≡ Some e → n < length s.nodes
within_nodes s n field e at = by_node (slice_get s.nodes n) refl where
  by_node : (o : Option SceneNode) → slice_get s.nodes n ≡ o → n < length s.nodes
  by_node None is = let gone : slice_get [] field ≡ Some e = ap (λ (l : List FieldRowView). slice_get l field) (sym (no_rows s n is)) ∙ at in absurd cc
  by_node (Some node) is = within s.nodes n node is

begun : (next : SceneView) (n field : ℕ) (e : FieldRowView) (v : Value) → slice_get (rows_at next n) field ≡ Some e → is_kept e.access e.field_type ≡ true
    → value_at next n field ≡ Some v → kept_of (state_of next) n field ≡ Some v
unfolding state_of
begun next n field e v at keeps held = by_node (slice_get next.nodes n) refl held where
  by_node : (o : Option SceneNode) → slice_get next.nodes n ≡ o
      → option_and_then (λ (m : SceneNode). option_and_then (λ v. v) (slice_get m.values field)) o ≡ Some v → kept_of (map fields_of next.nodes) n field ≡ Some v
  by_node None is held = absurd cc
  by_node (Some m) is held =
      ap (λ (o : Option Fields). option_and_then (λ (fields : Fields). field_value fields field) o) (mapped_at fields_of next.nodes n m is)
      ∙ (kept_in (rows_of (shape_of m)) m.values field e v (ap (λ (l : List FieldRowView). slice_get l field) (sym (rows_by_node next n m is)) ∙ at) held
      ∙ ap (λ (b : Bool). if b then Some v else None) keeps)

pub kept_again : KeptAgain
kept_again s routes state next w n field e v at keeps held =
    let now : value_now s state n field e.access e.field_type ≡ Some v =
    ap (λ (b : Bool). option_or (if b then kept_of state n field else None) (value_at s n field)) keeps
    ∙ ap (λ (o : Option Value). option_or o (value_at s n field)) held in
    begun next n field e v (ap (λ (l : List FieldRowView). slice_get l field) (w.rows n (within_nodes s n field e at)) ∙ at) keeps (w.values n field e at ∙ now)
