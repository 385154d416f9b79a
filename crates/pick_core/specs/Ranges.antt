-- Ranges of rows, by node.
use Rattle.std.specs.Prelude.{◌≡◌, ℕ, zero, suc, ◌≤◌, ◌⊎◌, List, length, Some, slice_get}
use Rattle.pick_core.specs.declared.ranges.RowRange.{RowRange}
use Rattle.pick_core.specs.declared.ranges.RowRanges.{RowRanges}

abbrev pub IsInRange : RowRange → ℕ → Type 0
IsInRange range row = (range.first ≤ row) × (row ≤ range.last)

-- the range at a place has the row
abbrev pub IsAt : List RowRange → ℕ → ℕ → Type 0
IsAt ranges place row = (range : RowRange) × (slice_get ranges place ≡ Some range)
    × IsInRange range row

-- one of the first n ranges has the row, from the range at a place on along `next`
abbrev pub IsAmong : List RowRange → ℕ → ℕ → ℕ → Type 0
IsAmong ranges zero place row = ⊥
IsAmong ranges (suc most) place row = (range : RowRange) × (slice_get ranges place ≡ Some range)
    × (IsInRange range row ⊎ IsAmong ranges most range.next row)

-- the row is one of the node's rows
abbrev pub HasRow : RowRanges → ℕ → ℕ → Type 0
HasRow ranges node row = (place : ℕ) × (slice_get ranges.firsts.items node ≡ Some place)
    × IsAmong ranges.ranges.items (length ranges.ranges.items) place row

-- each item of the old list is at the same place in the new one
abbrev pub IsLonger : List ℕ → List ℕ → Type 0
IsLonger old new = (n x : ℕ) → slice_get old n ≡ Some x → slice_get new n ≡ Some x

-- the new range has all rows of the old one, and the same range follows it
pub record IsWider (old new : RowRange) : Type 0 where
  pub next : new.next ≡ old.next
  pub first : new.first ≤ old.first
  pub last : old.last ≤ new.last

abbrev pub IsGrown : List RowRange → List RowRange → Type 0
IsGrown old new = (n : ℕ) (x : RowRange) → slice_get old n ≡ Some x
    → (y : RowRange) × (slice_get new n ≡ Some y) × IsWider x y
