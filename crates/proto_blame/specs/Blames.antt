-- Blames: lines as texts. A flat document keeps a blame as the name of a node or as a string.
use Rattle.std.specs.Prelude.{ℕ, ◌+◌, ◌*◌, ◌^◌, ◌%◌, nat_eq, List, Option, None, Some, decimal, if◌then◌else◌}
use Rattle.std.specs.List.{fold}

-- line 0 is no line, and has no blame
abbrev pub blame : ℕ → Option (List ℕ)
blame line = if nat_eq line 0 then None else Some (decimal line)

abbrev pub with_digit : ℕ → ℕ → ℕ
with_digit line digit = (line * 10 + digit % 16) % 2 ^ 32

-- the line of a blame: the digits 0 to 9 are the codes 48 to 57
abbrev pub line_in : List ℕ → ℕ
line_in text = fold with_digit 0 text
