use Rattle.cascade_world.proofs.Waiting.{around}
use Rattle.cascade_world.proofs.state.State.point.Goals as goal

pub invariant_of-self : goal.invariant_of-self
invariant_of-self c =
    around c.self.inside.items.items c.point_at.new.items.items c.deref.result.now c.self.inside.idles.items c.wake_around.new.idles.items c.args.node c.deref.ensures.value c.wake_around.ensures c.self.invariant c.point_at.ensures.others
