use Rattle.cascade_world.proofs.Waiting.{around}
use Rattle.cascade_world.proofs.state.State.keep.Goals as goal

pub invariant_of-self : goal.invariant_of-self
invariant_of-self c =
    around c.self.inside.items.items c.keep_at-kept.new.items.items c.deref.result.now c.self.inside.idles.items c.wake_around.new.idles.items c.args.target.node c.deref.ensures.value c.wake_around.ensures c.self.invariant c.keep_at-kept.ensures.others
