use Rattle.std.proofs.Common.{inl}
use Rattle.snapshot_core.specs.Opening.{version_in}
use Rattle.snapshot_core.proofs.Heads.{behind_body, behind_fault}
use Rattle.snapshot_core.proofs.loading.behind_head.Goals as goal

pub returns-in-Ok : goal.returns-in-Ok
returns-in-Ok c = behind_body (version_in c.args.bytes.now) c.args.scene.now c.args.boot c.args.mark.now c.args.bytes.now c.in-Ok.body.now c.loaded_body.result c.in-Ok.ensures.exact (rw c.version_in.ensures at c.loaded_body.ensures)

pub returns-in-Err : goal.returns-in-Err
returns-in-Err c = inl (behind_fault (version_in c.args.bytes.now) c.args.scene.now c.args.boot c.args.mark.now c.args.bytes.now c.in-Err.fault c.fault_of.result c.in-Err.ensures.exact c.fault_of.ensures)
