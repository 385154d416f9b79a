use Rattle.std.proofs.Common.{◌∙◌}
use Rattle.script_running.proofs.Numbers.{number-push}
use Rattle.script_running.proofs.runs.reach.Goals as goal

pub loop-numbers-preserved : goal.loop-numbers-preserved
loop-numbers-preserved c i =
    rw c.in_ok-push.ensures.items (number-push c.loop-numbers.numbers.items i ∙ c.loop-numbers.invariant i)
