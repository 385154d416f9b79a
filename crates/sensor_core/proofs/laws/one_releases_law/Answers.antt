use Rattle.sensor_core.proofs.SensorLaws.{one_releases}
use Rattle.sensor_core.proofs.laws.one_releases_law.Goals as goal

pub returns : goal.returns
returns c = one_releases
