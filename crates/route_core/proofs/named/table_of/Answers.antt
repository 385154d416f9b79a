use Rattle.std.proofs.Common.{arith, ℕ, ◌-◌}
use Rattle.scene_core.specs.Scene.{rows_at}
use Rattle.route_core.specs.Named.{rows_in}
use Rattle.route_core.proofs.RowTables.{one_more}
use Rattle.route_core.proofs.named.table_of.Goals as goal

pub loop-number-preserved : goal.loop-number-preserved
loop-number-preserved c =
    let entries = rows_at c.args.scene.now c.args.node in
    let k : ℕ = c.loop-number.number - 1 in (
      one_more entries k c.loop-number.number (rows_in c.loop-number.table) (rows_in c.put.new.self) (omega arith) c.loop-number.invariant.1 c.loop-number.invariant.0 c.in_ok-put.ensures,
      omega (arith, c.loop-number.invariant.1),
      omega (arith, c.loop-number.invariant.2),
    )
