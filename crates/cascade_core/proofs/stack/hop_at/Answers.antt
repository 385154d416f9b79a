use Rattle.std.proofs.Common.{◌<◌, ◌≤◌, ◌+◌, ap, arith, length}
use Rattle.std.proofs.lemmas.Bool.{ltb-false}
use Rattle.route_core.specs.Outputs.{places_of}
use Rattle.cascade_trace.proofs.RoutePlaces.{target-none, target-some, place-below}
use Rattle.cascade_core.proofs.stack.hop_at.Goals as goal

pub returns-then-next-places-clause-none : goal.returns-then-next-places-clause-none
returns-then-next-places-clause-none c =
    let few : length (places_of c.args.source c.args.routes.now) ≤ c.args.next = omega (arith, c.if-next-places.true, ap length c.from_output-places.ensures) in
    target-none c.args.routes.now c.args.source c.args.next few

pub route-requires : goal.route-requires
route-requires c =
    let within : c.args.next < length (places_of c.args.source c.args.routes.now) = omega (arith, c.if-next-places.false, ap length c.from_output-places.ensures) in
    rw c.from_output-places.ensures (place-below c.args.routes.now c.args.source c.args.next within)

pub returns-clause-target : goal.returns-clause-target
returns-clause-target c =
    let within : c.args.next < length (places_of c.args.source c.args.routes.now) = omega (arith, c.if-next-places.false, ap length c.from_output-places.ensures) in
    target-some c.args.routes.now c.args.source c.args.next c.route.result within (rw c.from_output-places.ensures at c.route.ensures)

pub returns-clause-last : goal.returns-clause-last
returns-clause-last c h =
    target-none c.args.routes.now c.args.source (c.args.next + 1) (omega (arith, ltb-false 1 _ h, ap length c.from_output-places.ensures))
