use Rattle.std.proofs.Common.{◌≡◌, ◌∙◌, subst, false, to_z, of_z, w64}
use Rattle.std.proofs.lemmas.Int.{to_z-of_z}
use Rattle.cascade_world.specs.Idle.{starts_at}
use Rattle.cascade_world.proofs.Sensing.{timely}
use Rattle.cascade_world.proofs.Waiting.{idle-at}
use Rattle.cascade_world.proofs.world.WorldData.is_idle.Goals as goal

pub returns : goal.returns
returns c node waits within =
    let time = timely c.time.result c.time.ensures.fits in
    let now : to_z w64 (of_z w64 c.time.result) ≡ c.args.input.now.time = to_z-of_z w64 c.time.result time.fits ∙ c.time.ensures.value in
    idle-at c.args.self.now node c.args.input.now.time
    (λ cycle here. c.is_resting.ensures node cycle c.if-not-is_resting.false within here)
    (λ f here. subst (λ t. starts_at f t ≡ false) now (c.is_idle.ensures node f waits within here))
