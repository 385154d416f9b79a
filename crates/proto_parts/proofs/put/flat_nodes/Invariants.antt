use Rattle.std.proofs.Common.{◌≡◌, ◌++◌}
use Rattle.std.specs.Vec.Iter.{into_iter_items}
use Rattle.proto_parts.specs.Put.{nodes_of}
use Rattle.proto_parts.proofs.put.flat_nodes.Given as goal

abbrev pub invariant-loop-node : goal.invariant-loop-node
invariant-loop-node l = nodes_of l.fn.nodes.items ≡ l.flat ++ nodes_of (into_iter_items l.node-iterator)
