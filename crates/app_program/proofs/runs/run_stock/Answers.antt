use Rattle.std.proofs.Common.{map}
use Rattle.script_boxes.specs.Boxes.{made_of}
use Rattle.app_program.proofs.Refusals.{taken_if, unrun_if}
use Rattle.app_program.proofs.runs.run_stock.Goals as goal

pub returns-clause-fits : goal.returns-clause-fits
returns-clause-fits g c =
    taken_if c.run.result c.args.job (map made_of c.in-Ok.boxes.items) c.in-Ok.ensures c.run.ensures.fits

pub returns-clause-refused : goal.returns-clause-refused
returns-clause-refused g c =
    unrun_if c.run.result c.args.job (map made_of c.in-Ok.boxes.items) (g.W.Write.contents c.args.writer.now)
    (g.W.Write.contents c.run.new.writer) c.in-Ok.ensures c.run.ensures.refused
