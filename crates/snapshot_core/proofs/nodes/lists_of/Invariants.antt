use Rattle.std.proofs.Common.{◌≡◌, drop}
use Rattle.byte_codec.specs.Codec.{rows_at}
use Rattle.scene_core.specs.Scene.{shapes_of}
use Rattle.snapshot_core.specs.Nodes.{node_codec, lists_codec}
use Rattle.snapshot_core.proofs.NodeLoops.{behind_lists}
use Rattle.snapshot_core.proofs.nodes.lists_of.Given as goal

abbrev pub invariant-loop-node : goal.invariant-loop-node
invariant-loop-node l = behind_lists l.lists (rows_at (node_codec l.version) (drop l.node (shapes_of l.scene)) l.rest) ≡ (lists_codec l.version (shapes_of l.scene)).read l.bytes
