use Rattle.std.proofs.Common.{◌<◌, arith, length, refl, rules}
use Rattle.scene_core.specs.Scene.{shapes_of}
use Rattle.snapshot_core.specs.Nodes.{kept_fields, shape_in}
use Rattle.snapshot_core.proofs.KeptRows.{shape_in-is, text_in}
use Rattle.snapshot_core.specs.Nodes.{lists_codec, nodes_codec}
use Rattle.snapshot_core.proofs.Growing.{extends_on, stays}
use Rattle.snapshot_core.proofs.NodeLoops.{text_goes_on, text_done, counted}
use Rattle.snapshot_core.proofs.nodes.push_nodes.Goals as goal

pub returns-in_err-count-clause-kept : goal.returns-in_err-count-clause-kept
returns-in_err-count-clause-kept c = stays c.args.out.now.items

pub loop-node-init : goal.loop-node-init
unfolding nodes_codec lists_codec
loop-node-init c = record { told = refl; kept = stays c.args.out.now.items }

pub node_type-requires : goal.node_type-requires
node_type-requires c = omega (arith, c.loop-node-test.true, c.in_ok-count.ensures)

pub returns-in_err-push_node-clause-kept : goal.returns-in_err-push_node-clause-kept
returns-in_err-push_node-clause-kept c = extends_on c.args.out.now.items c.loop-node.out.items _ c.loop-node.invariant.kept c.in_err-push_node.ensures.kept

pub loop-node-preserved : goal.loop-node-preserved
loop-node-preserved c = record {
  told =
      let w = c.args.world.now in
      let all = counted c.args.scene.now c.in_ok-count.count (length w.fields) (length w.sensors) (length w.pointing) c.in_ok-count.ensures in
      let scene = c.args.scene.now in
      let within : c.loop-node.node < length scene.nodes = omega (arith, c.loop-node-test.true, c.in_ok-count.ensures) in
      text_goes_on c.args.version (shapes_of scene) w.fields w.sensors w.pointing c.loop-node.node c.in_ok-count.count (shape_in scene c.loop-node.node) c.index-fields-at.result c.index-sensors-at.result c.state.result c.loop-node.out.items c.push_node.new.out.items _ c.loop-node-test.true all (shape_in-is scene c.loop-node.node within) (search rules) (search rules) (rw c.state.ensures (search rules))
      (text_in c.args.version scene c.loop-node.node c.node_type.result _ c.loop-node.out.items c.push_node.new.out.items within c.node_type.ensures (c.in_ok-push_node.ensures.ok (kept_fields (shape_in scene c.loop-node.node))))
      c.loop-node.invariant.told;
  kept = extends_on c.args.out.now.items c.loop-node.out.items c.push_node.new.out.items c.loop-node.invariant.kept c.in_ok-push_node.ensures.kept;
}

pub returns-clause-ok : goal.returns-clause-ok
returns-clause-ok c =
    let w = c.args.world.now in
    let all = counted c.args.scene.now c.in_ok-count.count (length w.fields) (length w.sensors) (length w.pointing) c.in_ok-count.ensures in
    text_done c.args.version (shapes_of c.args.scene.now) w.fields w.sensors w.pointing c.loop-node.node c.in_ok-count.count c.loop-node.out.items _ c.loop-node-test.false all c.loop-node.invariant.told

pub returns-clause-kept : goal.returns-clause-kept
returns-clause-kept c = c.loop-node.invariant.kept
