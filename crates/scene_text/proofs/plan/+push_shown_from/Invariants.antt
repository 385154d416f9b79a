use Rattle.std.proofs.Common.{length}
use Rattle.scene_text.proofs.plan.+push_shown_from.Given as goal

abbrev pub decreases-push_shown_from : goal.decreases-push_shown_from
decreases-push_shown_from l = length l.fields.now
