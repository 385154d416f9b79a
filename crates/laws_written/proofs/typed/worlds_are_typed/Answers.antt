use Rattle.laws_written.proofs.Held.{running_typed, worlds_typed}
use Rattle.laws_written.proofs.typed.worlds_are_typed.Goals as goal

pub returns-clause-reached : goal.returns-clause-reached
returns-clause-reached c = worlds_typed

pub returns-clause-running : goal.returns-clause-running
returns-clause-running c = running_typed
