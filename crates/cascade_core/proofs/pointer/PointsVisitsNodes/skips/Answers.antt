use Rattle.cascade_world.specs.Insides.{seen as insides_seen}
use Rattle.cascade_world.specs.Pointer.{untracked}
use Rattle.cascade_core.specs.Course.{wiring_at}
use Rattle.cascade_core.proofs.Skipped.{passed-course}
use Rattle.cascade_core.proofs.pointer.PointsVisitsNodes.skips.Goals as goal

pub returns : goal.returns
returns c routed d node is within same =
    let aim = c.args.self.now.aim.now in
    passed-course routed.scene (wiring_at routed) aim.pointer aim.before (insides_seen aim.inside) c.args.world.now d (untracked node)
    (c.passes_block.ensures routed.scene node is within) same
