use Rattle.std.proofs.Common.{◌≡◌, ◌++◌, length}
use Rattle.scene_values.specs.Grouping.{pairs}
use Rattle.scene_values.proofs.grouping.pairs_of.Given as goal

abbrev pub invariant-loop-rest : goal.invariant-loop-rest
invariant-loop-rest l = pairs l.fn.numbers ≡ l.items.items ++ pairs l.rest

abbrev pub decreases-loop-rest : goal.decreases-loop-rest
decreases-loop-rest l = length l.rest
