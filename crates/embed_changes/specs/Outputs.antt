-- The outputs that sent after an input.
use Rattle.std.specs.Prelude.{ℕ, Bool, List, [], ◌∷◌, ◌++◌, map, nat_lt, if◌then◌else◌}
use Rattle.std.specs.List.{filter, fold}
use Rattle.cascade_trace.specs.Ends.{has_sent}
use Rattle.cascade_trace.specs.declared.trace.TraceLine.{TraceLine}
use Rattle.scene_core.specs.declared.scene.End.{End}

-- the line is of a later input
abbrev pub is_after : (since : ℕ) → TraceLine → Bool
is_after since line = nat_lt since line.input

-- an output is appended, unless it is there already
abbrev pub noted : List End → End → List End
noted outputs e = if has_sent outputs e then outputs else outputs ++ e ∷ []

-- the outputs of the lines of later inputs, each once, in the order of their first lines
abbrev pub outputs_after : (since : ℕ) → List TraceLine → List End
outputs_after since lines = fold noted [] (map (λ l. l.source) (filter (is_after since) lines))
