use Rattle.scene_faults.proofs.Blameless.{scenes_without_blames}
use Rattle.scene_faults.proofs.laws.scenes_without_blames_pass_limits.Goals as goal

pub returns : goal.returns
returns c = scenes_without_blames
