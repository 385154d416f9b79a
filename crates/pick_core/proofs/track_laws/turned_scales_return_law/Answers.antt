use Rattle.pick_core.proofs.Back.{turned_scales_return}
use Rattle.pick_core.proofs.track_laws.turned_scales_return_law.Goals as goal

pub returns : goal.returns
returns c = turned_scales_return
