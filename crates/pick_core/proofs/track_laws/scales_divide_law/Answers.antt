use Rattle.pick_core.proofs.Back.{scales_divide}
use Rattle.pick_core.proofs.track_laws.scales_divide_law.Goals as goal

pub returns : goal.returns
returns c = scales_divide
