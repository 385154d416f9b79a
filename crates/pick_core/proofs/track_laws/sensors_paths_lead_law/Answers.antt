use Rattle.pick_core.proofs.Leading.{paths_lead}
use Rattle.pick_core.proofs.track_laws.sensors_paths_lead_law.Goals as goal

pub returns : goal.returns
returns c = paths_lead
