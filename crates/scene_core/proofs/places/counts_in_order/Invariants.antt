use Rattle.std.proofs.Common.{◌≡◌, length}
use Rattle.scene_core.proofs.places.counts_in_order.Given as goal

abbrev pub invariant-loop-node : goal.invariant-loop-node
invariant-loop-node l = length l.counts.items ≡ l.node-index
