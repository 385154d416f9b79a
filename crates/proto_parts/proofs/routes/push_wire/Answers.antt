use Rattle.std.proofs.Common.{◌≡◌, ◌∙◌, None, map, rules, ap, sym}
use Rattle.proto_parts.specs.Ends.{end, list}
use Rattle.proto_parts.specs.Routes.{ends_at, routes_of_wire, routes_between}
use Rattle.proto_parts.proofs.Pairs.{none-pushed, without-target, wire-is}
use Rattle.proto_parts.proofs.routes.push_wire.Goals as goal

pub returns-in_default-target : goal.returns-in_default-target
returns-in_default-target c =
    let none : c.args.wire.now.target ≡ None = search rules in
    none-pushed c.args.routes (routes_of_wire c.args.wire.now) (without-target c.args.wire.now none) c.requires

pub returns : goal.returns
returns c =
    let source : c.deref.result.now ≡ c.in-Some.source.value = search rules in
    let target : c.deref-2.result.now ≡ c.in-Some-target.target.value = search rules in
    let wire : routes_of_wire c.args.wire.now ≡ routes_between c.args.wire.now.line (list c.deref.result.now) (list c.deref-2.result.now) =
    wire-is c.args.wire.now c.deref.result.now c.deref-2.result.now (ap ends_at c.in-Some.is ∙ ap (λ e. map end (list e)) (sym source)) (ap ends_at c.in-Some-target.is ∙ ap (λ e. map end (list e)) (sym target)) in
    rw wire c.push_ends.ensures
