use Rattle.std.proofs.Common.{length}
use Rattle.scene_core.proofs.parts.+push_parts_from.Given as goal

abbrev pub decreases-push_parts_from : goal.decreases-push_parts_from
decreases-push_parts_from l = length l.rows.now
