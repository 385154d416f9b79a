-- The text of an event that was sent (our choice).
use Rattle.std.specs.Prelude.{ℕ, ℤ, ◌++◌, List, [], ◌∷◌, decimal}
use Rattle.x3d_values.specs.declared.value.Value.TheVariants.{SFTime}
use Rattle.x3d_values.specs.ValueText.{value_text}
use Rattle.scene_core.specs.declared.scene.End.{End}
use Rattle.scene_core.specs.Scene.{SceneView, field_name, label_of}
use Rattle.cascade_trace.specs.declared.trace.TraceLine.{TraceLine}

-- `<input> <seconds> `
unfoldable pub stamp_text : ℕ → ℤ → List ℕ
stamp_text input time = decimal input ++ 32 ∷ value_text (SFTime time) ++ 32 ∷ []

-- `<label>.<field>`
unfoldable pub source_text : SceneView → End → List ℕ
source_text scene source = label_of scene source.node ++ 46 ∷ field_name scene source

-- `<label>.<field> `
abbrev pub head_text : SceneView → End → List ℕ
head_text scene source = source_text scene source ++ 32 ∷ []

-- `<input> <seconds> <label>.<field> <value>` and a line feed
unfoldable pub line_text : SceneView → TraceLine → List ℕ
line_text scene line =
    stamp_text line.input line.time ++ source_text scene line.source
    ++ 32 ∷ value_text line.value ++ 10 ∷ []
