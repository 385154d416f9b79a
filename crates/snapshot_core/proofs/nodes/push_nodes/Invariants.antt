use Rattle.std.proofs.Common.{◌≡◌, ◌++◌, drop}
use Rattle.byte_codec.specs.Codec.{rows_text}
use Rattle.x3d_lists.specs.Extends.{Extends}
use Rattle.scene_core.specs.Scene.{shapes_of}
use Rattle.snapshot_core.specs.Nodes.{node_codec, nodes_codec, nodes_from}
use Rattle.snapshot_core.specs.WorldCodec.{lists_in}
use Rattle.snapshot_core.proofs.nodes.push_nodes.Given as goal

-- the nodes so far, and those that are left
abbrev pub invariant-loop-node : goal.invariant-loop-node
invariant-loop-node l = record {
  told :
      l.out.items ++ rows_text (node_codec l.version) (drop l.node (shapes_of l.scene)) (nodes_from (drop l.node l.world.fields) (drop l.node l.world.sensors) (drop l.node l.world.pointing))
      ≡ l.fn.out.items ++ (nodes_codec l.version l.scene).write (lists_in l.world);
  kept : Extends l.fn.out.items l.out.items;
}
