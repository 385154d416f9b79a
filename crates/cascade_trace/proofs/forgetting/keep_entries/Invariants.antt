use Rattle.std.proofs.Common.{◌≡◌, ◌≤◌, ◌++◌, drop, length, take}
use Rattle.cascade_trace.specs.Staying.{entries_from}
use Rattle.cascade_trace.proofs.forgetting.keep_entries.Given as goal

-- what stays of the entries so far, with those that are left
abbrev pub invariant-loop-place : goal.invariant-loop-place
invariant-loop-place l =
    (take l.kept l.entries.items ++ entries_from l.below (drop l.place l.entries.items) l.input
    ≡ entries_from l.below l.fn.entries.items 0)
    × (l.kept ≤ l.place)
    × (length l.entries.items ≡ length l.fn.entries.items)
