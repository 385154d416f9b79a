use Rattle.script_running.specs.Scripts.{script_list}
use Rattle.script_boxes.specs.Boxes.{stock_kind, stock_state}
use Rattle.app_program.proofs.Attached.{attached}
use Rattle.app_program.proofs.stages.scripts_of.Goals as goal

pub returns-clause-fresh : goal.returns-clause-fresh
returns-clause-fresh c =
    let stock = c.in_ok-attach_stock.ensures.stock in
    attached stock_kind stock_state (script_list c.args.scene.now) c.in_ok-attach_stock.field-0 stock.0
    (rw c.in_ok-specs.ensures at (rw c.as_slice.ensures.value at c.in_ok-attach_stock.ensures.fits)) stock.1
