use Rattle.std.proofs.Common.{refl}
use Rattle.proto_parts.specs.Scope.{shown}
use Rattle.proto_parts.proofs.Scoping.{route-noted}
use Rattle.proto_parts.proofs.scope.Scope.note_route.Goals as goal

pub returns-clause-shown : goal.returns-clause-shown
returns-clause-shown c =
    route-noted c.args.route.now (shown c.args.self.now) c.args.self.now.routes.items c.push.new.self.items
    (record { line = c.args.route.now.line; source = c.side-source.result; target = c.side-target.result }) refl c.in_ok-push.ensures.items refl
    c.side-source.ensures.at c.side-source.ensures.field c.side-target.ensures.at c.side-target.ensures.field
