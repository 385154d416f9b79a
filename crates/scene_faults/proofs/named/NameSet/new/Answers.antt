use Rattle.std.proofs.Common.{refl}
use Rattle.scene_faults.specs.Index.{holds}
use Rattle.scene_faults.proofs.named.NameSet.new.Goals as goal

pub returns : goal.returns
unfolding holds
returns c = λ name. rw c.new.ensures.empty refl
