use Rattle.std.proofs.Common.{ap, ◌∙◌}
use Rattle.snapshot_core.specs.ShotHead.{shot_head}
use Rattle.snapshot_core.proofs.ShotHeads.{head_of_shot}
use Rattle.snapshot_core.proofs.head.shot_head.Goals as goal

pub returns-clause-shots : goal.returns-clause-shots
returns-clause-shots c = λ mark boot scene w len small has e. c.head_in.ensures ∙ ap shot_head e ∙ head_of_shot mark boot scene w len small has
