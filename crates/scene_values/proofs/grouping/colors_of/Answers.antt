use Rattle.std.proofs.Common.{rules}
use Rattle.scene_values.proofs.Groups.{colors_grow}
use Rattle.scene_values.proofs.grouping.colors_of.Goals as goal

pub loop-rest-preserved : goal.loop-rest-preserved
loop-rest-preserved c =
    colors_grow _ _ _ c.loop-rest.rest.now _ _ _ c.in-len3-up.len_at_least (search rules) (search rules) (search rules) c.loop-rest.invariant c.in_ok-push.ensures.items
