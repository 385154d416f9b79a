use Rattle.std.proofs.Common.{[]}
use Rattle.app_standby.proofs.running.shared_run.Goals as goal

pub returns-clause-grows : goal.returns-clause-grows
returns-clause-grows g c = λ clean. (c.turns.ensures.goes []).grows clean

pub returns-clause-clean : goal.returns-clause-clean
returns-clause-clean g c = λ clean. (c.turns.ensures.goes []).clean clean
