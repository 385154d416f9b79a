use Rattle.std.proofs.Common.{◌≡◌, ◌++◌, length}
use Rattle.scene_values.specs.Grouping.{vectors}
use Rattle.scene_values.proofs.grouping.vectors_of.Given as goal

abbrev pub invariant-loop-rest : goal.invariant-loop-rest
invariant-loop-rest l = vectors l.fn.numbers ≡ l.items.items ++ vectors l.rest

abbrev pub decreases-loop-rest : goal.decreases-loop-rest
decreases-loop-rest l = length l.rest
