use Rattle.std.proofs.Common.{refl}
use Rattle.classic_part.specs.Index.{has}
use Rattle.classic_part.proofs.lines.LineSet.new.Goals as goal

pub returns : goal.returns
unfolding has
returns c = λ line. rw c.new.ensures.empty refl
