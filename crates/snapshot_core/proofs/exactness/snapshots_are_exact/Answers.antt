use Rattle.snapshot_core.proofs.ShotLaws.{loads, refuses, found}
use Rattle.snapshot_core.proofs.exactness.snapshots_are_exact.Goals as goal

pub returns-clause-loads : goal.returns-clause-loads
returns-clause-loads c = loads

pub returns-clause-refuses : goal.returns-clause-refuses
returns-clause-refuses c = refuses

pub returns-clause-found : goal.returns-clause-found
returns-clause-found c = found
