use Rattle.pick_core.proofs.Within.{hits_are_on_rays}
use Rattle.pick_core.proofs.laws.hits_are_on_rays_law.Goals as goal

pub returns : goal.returns
returns c = hits_are_on_rays
