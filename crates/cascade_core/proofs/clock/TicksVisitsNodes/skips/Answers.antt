use Rattle.cascade_core.specs.Course.{wiring_at}
use Rattle.cascade_core.proofs.Skipped.{idle-course}
use Rattle.cascade_core.proofs.clock.TicksVisitsNodes.skips.Goals as goal

pub returns : goal.returns
returns c routed d node is within same =
    idle-course (wiring_at routed) c.args.self.now.input.now.time c.args.world.now d node (c.is_idle.ensures node is within) same
