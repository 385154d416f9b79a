use Rattle.std.proofs.Common.{◌≡◌, ℕ, ◌+◌, ◌-◌, length}
use Rattle.script_running.specs.Table.{number_at}
use Rattle.script_running.proofs.runs.reach.Given as goal

-- the places that were added have no number
abbrev pub invariant-loop-numbers : goal.invariant-loop-numbers
invariant-loop-numbers l = (i : ℕ) → number_at l.numbers.items i ≡ number_at l.fn.numbers.items i

abbrev pub decreases-loop-numbers : goal.decreases-loop-numbers
decreases-loop-numbers l = l.node + 1 - length l.numbers.items
