use Rattle.std.proofs.Common.{rules}
use Rattle.scene_values.proofs.Groups.{pairs_grow}
use Rattle.scene_values.proofs.grouping.pairs_of.Goals as goal

pub loop-rest-preserved : goal.loop-rest-preserved
loop-rest-preserved c =
    pairs_grow _ _ _ c.loop-rest.rest.now _ _ c.in-len2-up.len_at_least (search rules) (search rules) c.loop-rest.invariant c.in_ok-push.ensures.items
