-- A trace without the lines of inputs below a number.
use Rattle.std.specs.Prelude.{ℕ, Bool, List, nat_le}
use Rattle.std.specs.List.{filter}
use Rattle.cascade_trace.specs.declared.trace.TraceLine.{TraceLine}

-- the line is of an input with this number or a higher one
abbrev pub is_from : (below : ℕ) → TraceLine → Bool
is_from below line = nat_le below line.input

abbrev pub lines_from : (below : ℕ) → List TraceLine → List TraceLine
lines_from below lines = filter (is_from below) lines
