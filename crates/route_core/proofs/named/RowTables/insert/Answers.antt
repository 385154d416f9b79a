use Rattle.route_core.specs.Named.{table_at}
use Rattle.route_core.proofs.RowTables.{tables_grown}
use Rattle.route_core.proofs.named.RowTables.insert.Goals as goal

pub returns : goal.returns
unfolding table_at
returns c = λ scene known here.
    tables_grown scene c.args.self.now (record c.args.self.now { tables = c.insert.new.self }) c.args.node c.args.table c.in_ok-insert.ensures.updates.0 known here
