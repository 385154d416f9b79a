use Rattle.std.proofs.Common.{◌≡◌, ◌+◌, ◌-◌, ◌≤◌, length, min, take, drop}
use Rattle.std.specs.Str.Parse.{digits_value_after}
use Rattle.x3d_numerals.specs.Reading.{run}
use Rattle.x3d_numerals.proofs.digits.read_digits.Given as goal

abbrev pub invariant-loop-len : goal.invariant-loop-len
invariant-loop-len l = (l.len ≤ length l.text) × (run 10 l.text ≡ l.len + run 10 (drop l.len l.text)) × (l.number ≡ min (digits_value_after 10 l.start (take l.len l.text)) 18446744073709551615)

abbrev pub decreases-loop-len : goal.decreases-loop-len
decreases-loop-len l = length l.text - l.len
