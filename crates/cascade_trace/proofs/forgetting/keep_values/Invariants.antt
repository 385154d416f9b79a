use Rattle.std.proofs.Common.{◌≡◌, ◌≤◌, ◌+◌, ◌++◌, drop, length, take}
use Rattle.std.specs.Prelude.{count_by}
use Rattle.cascade_trace.specs.Staying.{values_from}
use Rattle.cascade_trace.specs.Since.{takes_value}
use Rattle.cascade_trace.proofs.forgetting.keep_values.Given as goal

-- what stays of the values so far, with those that are left
abbrev pub invariant-loop-entry : goal.invariant-loop-entry
invariant-loop-entry l =
    (take l.kept l.values.items
    ++ values_from l.below (drop l.entry-index l.entries) l.input (drop l.passed l.values.items)
    ≡ values_from l.below l.entries 0 l.fn.values.items)
    × (l.kept ≤ l.passed)
    × (length l.values.items ≡ length l.fn.values.items)
    × (l.passed + count_by takes_value (drop l.entry-index l.entries) ≡ length l.values.items)
