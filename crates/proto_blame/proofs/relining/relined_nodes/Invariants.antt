use Rattle.std.proofs.Common.{◌≡◌}
use Rattle.std.specs.List.{fold}
use Rattle.std.specs.Vec.Iter.{into_iter_items}
use Rattle.proto_blame.specs.Relined.{with_next, relined_node, side_by_side}
use Rattle.proto_blame.proofs.relining.relined_nodes.Given as goal

abbrev pub invariant-loop-node : goal.invariant-loop-node
invariant-loop-node l =
    side_by_side (relined_node l.nodes) l.nodes l.fn.own
    ≡ fold (with_next (relined_node l.nodes) l.nodes) l.made (into_iter_items l.node-iterator)
