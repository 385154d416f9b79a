use Rattle.std.proofs.Common.{◌∙◌, sym, None}
use Rattle.cascade_world.specs.Insides.{seen}
use Rattle.cascade_world.proofs.Waiting.{beside-all, not-so, passes-at}
use Rattle.cascade_world.proofs.world.WorldData.passes_block.Goals as goal

pub returns : goal.returns
returns c scene sensor beside within =
    let aim = c.args.aim.now in
    passes-at scene c.args.self.now sensor aim.pointer aim.before (seen aim.inside) None
    (beside-all aim.inside.sensors.items c.args.block sensor (not-so _ (sym c.is_beside.ensures ∙ beside)) within)
    (λ state here. c.is_resting.ensures sensor state c.if-not-is_resting.false within here)
