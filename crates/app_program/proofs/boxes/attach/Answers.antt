use Rattle.script_running.specs.Scripts.{script_list}
use Rattle.app_program.proofs.Attached.{attached}
use Rattle.app_program.proofs.boxes.attach.Goals as goal

pub returns-clause-fresh : goal.returns-clause-fresh
returns-clause-fresh g c =
    attached g.B.Behaviour.kind_of g.B.Behaviour.numbers (script_list c.args.scene.now) c.in_ok-attach.field-0 c.args.boxes.items
    (rw c.in_ok-specs.ensures at (rw c.as_slice.ensures.value at c.in_ok-attach.ensures.fits)) c.in_ok-attach.ensures.boxes
