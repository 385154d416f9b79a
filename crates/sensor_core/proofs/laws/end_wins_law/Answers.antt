use Rattle.sensor_core.proofs.SensorLaws.{end_wins}
use Rattle.sensor_core.proofs.laws.end_wins_law.Goals as goal

pub returns : goal.returns
returns c = end_wins
