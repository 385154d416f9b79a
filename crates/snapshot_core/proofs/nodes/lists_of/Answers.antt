use Rattle.std.proofs.Common.{◌<◌, arith, length}
use Rattle.scene_core.specs.Scene.{shapes_of}
use Rattle.snapshot_core.specs.Nodes.{lists_codec, shape_in}
use Rattle.snapshot_core.proofs.KeptRows.{shape_in-is}
use Rattle.snapshot_core.proofs.NodeLoops.{nodes_end_at, nodes_go_on_at, nodes_done_at}
use Rattle.snapshot_core.proofs.nodes.lists_of.Goals as goal

pub returns-in-Err : goal.returns-in-Err
returns-in-Err c =
    let scene = c.args.scene.now in
    let within : c.loop-node.node < length scene.nodes = omega (arith, c.loop-node-test.true, c.in_ok-count.ensures.ok) in
    nodes_end_at c.args.version _ c.loop-node.lists (shapes_of scene) c.loop-node.node (shape_in scene c.loop-node.node) c.loop-node.rest.now ((lists_codec c.args.version (shapes_of scene)).read c.args.bytes.now) (shape_in-is scene c.loop-node.node within) c.in-Err.ensures c.loop-node.invariant

pub loop-node-preserved : goal.loop-node-preserved
loop-node-preserved c =
    let scene = c.args.scene.now in
    let within : c.loop-node.node < length scene.nodes = omega (arith, c.loop-node-test.true, c.in_ok-count.ensures.ok) in
    rw c.in-Ok-push.ensures (nodes_go_on_at c.args.version c.loop-node.lists (shapes_of scene) c.loop-node.node (shape_in scene c.loop-node.node) c.loop-node.rest.now _ _ ((lists_codec c.args.version (shapes_of scene)).read c.args.bytes.now) (shape_in-is scene c.loop-node.node within) c.in-Ok.ensures c.loop-node.invariant)

pub returns : goal.returns
returns c = nodes_done_at c.args.version c.loop-node.lists c.args.scene.now c.loop-node.node c.loop-node.rest.now ((lists_codec c.args.version (shapes_of c.args.scene.now)).read c.args.bytes.now) c.loop-node-test.false c.in_ok-count.ensures.ok c.loop-node.invariant
