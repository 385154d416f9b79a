use Rattle.snapshot_core.proofs.Heads.{put_in}
use Rattle.snapshot_core.proofs.loading.load_into.Goals as goal

pub returns-in-Ok : goal.returns-in-Ok
returns-in-Ok g c = put_in c.args.stage.now c.args.mark.now c.args.bytes.now c.args.boot c.in-Ok.found c.put.result _ (rw c.scene.ensures at c.in-Ok.ensures) c.put.ensures
