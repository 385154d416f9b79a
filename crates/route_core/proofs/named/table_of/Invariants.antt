use Rattle.std.proofs.Common.{◌≡◌, ◌≤◌, length}
use Rattle.scene_core.specs.Scene.{rows_at}
use Rattle.route_core.specs.Named.{rows_from, rows_in}
use Rattle.route_core.proofs.named.table_of.Given as goal

-- the fields from this one on stand in the table
abbrev pub invariant-loop-number : goal.invariant-loop-number
invariant-loop-number l = (rows_in l.table ≡ rows_from l.number (rows_at l.scene l.node)) × (l.number ≤ length (rows_at l.scene l.node)) × (l.number ≤ 65536)

abbrev pub decreases-loop-number : goal.decreases-loop-number
decreases-loop-number l = l.number
