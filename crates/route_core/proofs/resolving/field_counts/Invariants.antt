use Rattle.std.proofs.Common.{◌≡◌, ◌≤◌, take}
use Rattle.std.specs.Prelude.{All}
use Rattle.route_core.specs.Ends.{field_counts}
use Rattle.route_core.proofs.resolving.field_counts.Given as goal

abbrev pub invariant-loop-node : goal.invariant-loop-node
invariant-loop-node l = (l.counts.items ≡ take l.node (field_counts l.scene)) × All (λ count. count ≤ 65536) l.counts.items
