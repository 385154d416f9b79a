-- The lines of a trace from an input on, by labels as in the trace's text, or by numbers (our
-- choice).
use Rattle.std.specs.Prelude.{ℕ, List, [], ◌∷◌, ◌++◌, decimal, nat_lt, if◌then◌else◌}
use Rattle.scene_core.specs.declared.scene.End.{End}
use Rattle.cascade_trace.specs.LineText.{stamp_text}
use Rattle.cascade_trace.specs.declared.trace.TraceLine.{TraceLine}
use Rattle.x3d_values.specs.ValueText.{value_text}

-- the text of a line of an input with this number or a higher one, and nothing for earlier inputs
abbrev pub from_on : (TraceLine → List ℕ) → ℕ → TraceLine → List ℕ
from_on text first line = if nat_lt line.input first then [] else text line

-- `<node> <field>`
unfoldable pub place_text : End → List ℕ
place_text source = decimal source.node ++ 32 ∷ decimal source.field

-- `<input> <seconds> <node> <field> <value>` and a line feed
unfoldable pub change_text : TraceLine → List ℕ
change_text line =
    stamp_text line.input line.time ++ place_text line.source
    ++ 32 ∷ value_text line.value ++ 10 ∷ []
