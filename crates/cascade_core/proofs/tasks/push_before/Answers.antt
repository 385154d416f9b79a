use Rattle.std.proofs.Common.{rules}
use Rattle.cascade_core.proofs.tasks.push_before.Goals as goal

pub returns-clause-tasks : goal.returns-clause-tasks
returns-clause-tasks c = search rules
