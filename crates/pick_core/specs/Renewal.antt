-- Which rows of a cache a change at a node concerns.
use Rattle.std.specs.Prelude.{◌≡◌, ℕ, List, Some, true, slice_get}
use Rattle.pick_core.specs.Ranges.{HasRow}
use Rattle.pick_core.specs.declared.ranges.RowRanges.{RowRanges}
use Rattle.pick_core.specs.Sites.{touches}
use Rattle.pick_core.specs.declared.row.BoxRow.{BoxRow}

-- each row is among the rows of each node that its trail leads through
abbrev pub AreRangesOf : RowRanges → List BoxRow → Type 0
AreRangesOf ranges rows = (n k : ℕ) (r : BoxRow) → slice_get rows k ≡ Some r
    → touches n r.trail ≡ true → HasRow ranges n k
