use Rattle.std.proofs.Common.{arith, ◌≡◌, ◌<◌, ◌+◌, ◌-◌, ◌*◌, sym, subst, List, length, take, drop, Some}
use Rattle.std.specs.Prelude.{slice_get}
use Rattle.std.proofs.lemmas.Option.{slice_get_within}
use Rattle.x3d_values.specs.declared.fields.Fields.{Fields}
use Rattle.cascade_world.specs.Idle.{IsIdle}
use Rattle.cascade_world.proofs.Blocks.{in-block, in-slice, marked}
use Rattle.cascade_world.proofs.state.State.look_at.Goals as goal

pub invariant_of-self : goal.invariant_of-self
invariant_of-self c =
    marked IsIdle c.self.inside.items.items c.self.inside.idles.items c.args.block c.idle_of-idle.result c.self.invariant
    (λ i f e item.
    let place = in-block i c.args.block e in
    let within : i < length c.self.inside.items.items = slice_get_within c.self.inside.items.items i f item in
    let below : i - c.args.block * 32 < c.min-end.result - c.args.block * 32 = omega (arith, place.0, place.1, within, c.min-end.ensures, c.len-2.ensures) in
    let whole : i ≡ c.args.block * 32 + (i - c.args.block * 32) = omega (arith, place.0) in
    c.idle_of-idle.ensures (i - c.args.block * 32) f
    (subst (λ (xs : List Fields). slice_get (take (c.min-end.result - c.args.block * 32) (drop (c.args.block * 32) xs)) (i - c.args.block * 32) ≡ Some f) (sym c.deref.ensures.value)
    (in-slice c.self.inside.items.items (c.args.block * 32) (c.min-end.result - c.args.block * 32) (i - c.args.block * 32) i f whole below item)))
