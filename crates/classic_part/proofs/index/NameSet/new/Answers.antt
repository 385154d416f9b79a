use Rattle.std.proofs.Common.{refl}
use Rattle.classic_part.specs.Index.{holds}
use Rattle.classic_part.proofs.index.NameSet.new.Goals as goal

pub returns : goal.returns
unfolding holds
returns c = λ name. rw c.new.ensures.empty refl
