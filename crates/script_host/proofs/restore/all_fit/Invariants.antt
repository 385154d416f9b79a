use Rattle.script_host.specs.Pairs.{PairsBelow}
use Rattle.script_host.specs.Restoring.{IsStateOf}
use Rattle.script_host.proofs.restore.all_fit.Given as goal

abbrev pub invariant-loop-k : goal.invariant-loop-k
invariant-loop-k g l = PairsBelow IsStateOf l.slots l.states l.k
