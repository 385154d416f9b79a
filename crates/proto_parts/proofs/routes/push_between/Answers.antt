use Rattle.std.proofs.Common.{◌≡◌, ◌++◌, ◌∙◌, Ok, Err, length, rules, refl, sym, ap, inr}
use Rattle.proto_parts.specs.Routes.{routes_between}
use Rattle.proto_parts.proofs.Pairs.{no-room, room}
use Rattle.proto_parts.proofs.routes.push_between.Goals as goal

pub returns-then-not-has_room : goal.returns-then-not-has_room
returns-then-not-has_room c = inr (
    no-room c.args.line c.len.result (length c.args.sources.now) (length c.args.targets.now) c.args.routes c.args.sources.now c.args.targets.now c.len.ensures refl refl c.requires
    (sym c.has_room.ensures ∙ c.if-not-has_room.true)
    ∙ ap (λ f. Err f) (sym c.on_line.ensures))

pub returns : goal.returns
returns c =
    let made : c.in_ok-push_pairs.field-0 ≡ c.args.routes ++ routes_between c.args.line c.args.sources.now c.args.targets.now = search rules in
    room c.args.line c.len.result (length c.args.sources.now) (length c.args.targets.now) c.args.routes c.args.sources.now c.args.targets.now c.len.ensures refl refl c.requires
    (sym c.has_room.ensures ∙ c.if-not-has_room.false)
    ∙ ap (λ rs. Ok rs) (sym made)
