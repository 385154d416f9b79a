use Rattle.std.proofs.Common.{◌-◌}
use Rattle.react_core.proofs.KeyLemmas.{IsPassedAt}
use Rattle.react_core.proofs.keys.reached.Given as goal

abbrev pub invariant-loop-low : goal.invariant-loop-low
invariant-loop-low l = IsPassedAt l.keys l.fraction l.low l.high

abbrev pub decreases-loop-low : goal.decreases-loop-low
decreases-loop-low l = l.high - l.low
