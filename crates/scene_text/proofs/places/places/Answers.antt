use Rattle.std.proofs.Common.{◌++◌}
use Rattle.scene_text.specs.Places.{nodes_within}
use Rattle.scene_text.proofs.Ranges.{flat_map_range_more}
use Rattle.scene_text.proofs.places.places.Goals as goal

pub loop-node-preserved : goal.loop-node-preserved
loop-node-preserved c =
    let more = flat_map_range_more (c.args.scene.now.roots ++ c.args.scene.now.helpers) (nodes_within c.args.scene.now) c.loop-node.node in
    cc (c.in_ok-push_nodes_within.ensures, c.loop-node.invariant)
