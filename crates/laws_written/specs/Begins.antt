-- What the nodes of a scene that is read again keep before any event (ISO/IEC 19775-1, field
-- semantics).
use Rattle.std.specs.Prelude.{◌≡◌, ℕ, true, List, Option, Some, slice_get}
use Rattle.std.specs.Option.{option_and_then}
use Rattle.x3d_values.specs.declared.fields.Fields.{Fields}
use Rattle.x3d_values.specs.declared.value.Value.{Value}
use Rattle.x3d_values.specs.Access.{is_kept}
use Rattle.x3d_values.specs.Kept.{field_value}
use Rattle.x3d_values.specs.Tables.{FieldRowView}
use Rattle.scene_core.specs.declared.scene.Route.{Route}
use Rattle.scene_core.specs.Scene.{SceneView, rows_at, state_of}
use Rattle.laws_written.specs.Again.{IsWrittenOf}

-- what a node keeps of a field
abbrev pub kept_of : List Fields → ℕ → ℕ → Option Value
kept_of state n field =
    option_and_then (λ (fields : Fields). field_value fields field) (slice_get state n)

-- each value that was kept when the scene was written is kept again before any event
abbrev pub KeptAgain : Type 0
KeptAgain =
    (s : SceneView) (routes : List Route) (state : List Fields) (next : SceneView)
    → IsWrittenOf s routes state next → (n field : ℕ) (e : FieldRowView) (v : Value)
    → slice_get (rows_at s n) field ≡ Some e → is_kept e.access e.field_type ≡ true
    → kept_of state n field ≡ Some v
    → kept_of (state_of next) n field ≡ Some v
