use Rattle.cascade_world.proofs.Waiting.{unpressed}
use Rattle.cascade_world.proofs.world.WorldData.is_untouched.Goals as goal

pub returns : goal.returns
returns c who sensor known within =
    unpressed c.args.self.now.pointing who sensor (λ state here. c.is_resting.ensures sensor state known within here)
