-- The current value of a node's field.
use Rattle.std.specs.Prelude.{ℕ, List, Option, slice_get}
use Rattle.std.specs.Option.{option_and_then, option_or}
use Rattle.scene_core.specs.Scene.{SceneView, value_at}
use Rattle.x3d_values.specs.Kept.{field_value}
use Rattle.x3d_values.specs.declared.fields.Fields.{Fields}
use Rattle.x3d_values.specs.declared.value.Value.{Value}

-- what a node keeps of a field
abbrev pub kept_value : List Fields → ℕ → ℕ → Option Value
kept_value state node field =
    option_and_then (λ (f : Fields). field_value f field) (slice_get state node)

-- what a node keeps of a field, or else its opening value, which never changes
abbrev pub value_now : SceneView → List Fields → ℕ → ℕ → Option Value
value_now scene state node field =
    option_or (kept_value state node field) (value_at scene node field)
