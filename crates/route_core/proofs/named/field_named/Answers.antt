use Rattle.std.proofs.Common.{◌∙◌, sym}
use Rattle.route_core.proofs.RowTables.{in_table}
use Rattle.route_core.proofs.named.field_named.Goals as goal

pub returns-in-Some : goal.returns-in-Some
returns-in-Some c =
    c.get-in-Some.ensures
    ∙ in_table c.args.scene.now c.args.tables.now c.args.node c.in-Some.table.now c.args.name.now c.requires (sym c.in-Some.ensures)
