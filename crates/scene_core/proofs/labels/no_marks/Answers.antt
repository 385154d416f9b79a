use Rattle.std.proofs.Common.{refl}
use Rattle.std.proofs.Math.Path.{fun_ext}
use Rattle.scene_core.specs.Labels.{known_of}
use Rattle.scene_core.proofs.labels.no_marks.Goals as goal

pub returns : goal.returns
unfolding known_of
returns c = fun_ext (λ name. rw c.new.ensures.empty refl)
