use Rattle.scene_core.specs.Scene.{shapes_of}
use Rattle.snapshot_core.proofs.LineLaws.{lines_read, lines_fail}
use Rattle.snapshot_core.proofs.lines.lines_of.Goals as goal

pub returns-in-Err : goal.returns-in-Err
returns-in-Err c = lines_fail c.args.version (shapes_of c.args.scene.now) _ c.new.result c.args.bytes.now c.new.ensures (rw c.numbers.ensures at c.in-Err.ensures)

pub returns-in-Ok : goal.returns-in-Ok
returns-in-Ok c = lines_read c.args.version (shapes_of c.args.scene.now) c.new.result c.args.bytes.now c.trace_of.new.taker.trace c.in-Ok.rest.now c.new.ensures (rw c.numbers.ensures at c.in-Ok.ensures)
