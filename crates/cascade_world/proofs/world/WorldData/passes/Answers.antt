use Rattle.std.proofs.Common.{◌≡◌, ◌∙◌, ap, sym, Some, true, option_copied, slice_get}
use Rattle.std.specs.Prelude.{is_none}
use Rattle.sensor_plane.specs.Pointing.{is_resting}
use Rattle.cascade_world.specs.Insides.{inside_at, seen}
use Rattle.cascade_world.proofs.Waiting.{passes-there}
use Rattle.cascade_world.proofs.world.WorldData.passes.Goals as goal

pub returns-then-is_resting : goal.returns-then-is_resting
returns-then-is_resting c scene outside =
    let state = c.in-Some.slot.now in
    let aim = c.args.aim.now in
    let sensor = c.args.concerned.sensor in
    let here : slice_get c.args.self.now.pointing sensor ≡ Some state = sym c.get.ensures ∙ ap option_copied c.in-Some.is in
    let rest : is_resting state ≡ true = sym c.is_resting.ensures ∙ c.if-is_resting.true in
    let none : is_none (inside_at aim.inside.sensors.items sensor) ≡ true = sym c.is_outside.ensures ∙ outside in
    passes-there scene c.args.self.now sensor aim.pointer aim.before (seen aim.inside) c.args.concerned.tracked none state here rest
