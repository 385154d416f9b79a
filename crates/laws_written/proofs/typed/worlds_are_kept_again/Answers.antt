use Rattle.laws_written.proofs.Rewritten.{running_kept, worlds_kept}
use Rattle.laws_written.proofs.typed.worlds_are_kept_again.Goals as goal

pub returns-clause-reached : goal.returns-clause-reached
returns-clause-reached c = worlds_kept c.values_are_kept_again.ensures c.written_worlds_are_again.ensures.reached

pub returns-clause-running : goal.returns-clause-running
returns-clause-running c = running_kept c.values_are_kept_again.ensures c.written_worlds_are_again.ensures.running
