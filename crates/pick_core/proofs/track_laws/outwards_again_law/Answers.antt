use Rattle.pick_core.proofs.Back.{again}
use Rattle.pick_core.proofs.track_laws.outwards_again_law.Goals as goal

pub returns : goal.returns
returns c = again
