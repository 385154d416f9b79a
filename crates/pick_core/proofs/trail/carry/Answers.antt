use Rattle.std.proofs.Common.{arith, ◌∙◌}
use Rattle.pick_core.proofs.Trails.{carried-take, carried-none}
use Rattle.pick_core.proofs.trail.carry.Goals as goal

pub loop-left-preserved : goal.loop-left-preserved
loop-left-preserved c =
    record {
      within = omega arith;
      rest = rw c.move_box-bounds.ensures (carried-take c.args.scene.now c.args.state.now c.args.trail.now c.loop-left.left _ c.loop-left.bounds c.loop-left-test.true c.loop-left.invariant.within ∙ c.loop-left.invariant.rest);
    }

pub returns : goal.returns
returns c = carried-none c.args.scene.now c.args.state.now c.args.trail.now c.loop-left.left c.loop-left.bounds (omega arith) ∙ c.loop-left.invariant.rest
