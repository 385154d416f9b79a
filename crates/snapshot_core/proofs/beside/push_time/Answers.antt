use Rattle.std.proofs.Common.{rules}
use Rattle.snapshot_core.specs.Beside.{time_part}
use Rattle.snapshot_core.proofs.beside.push_time.Goals as goal

pub returns-in-TimeSensor-clause-ok : goal.returns-in-TimeSensor-clause-ok
unfolding time_part
returns-in-TimeSensor-clause-ok c = search rules
