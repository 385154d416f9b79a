use Rattle.std.proofs.Common.{◌≡◌, ℕ, ◌<◌, true, Some}
use Rattle.std.specs.Prelude.{slice_get}
use Rattle.pick_core.specs.Ranges.{HasRow}
use Rattle.pick_core.specs.Sites.{touches}
use Rattle.pick_core.specs.declared.row.BoxRow.{BoxRow}
use Rattle.pick_core.proofs.renewal.ranges_of.Given as goal

abbrev pub invariant-loop-at : goal.invariant-loop-at
invariant-loop-at l = (n k : ℕ) (r : BoxRow) → k < l.at → slice_get l.rows k ≡ Some r → touches n r.trail ≡ true → HasRow l.ranges n k
