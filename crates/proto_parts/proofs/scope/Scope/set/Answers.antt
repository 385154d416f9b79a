use Rattle.std.proofs.Common.{Some, refl}
use Rattle.proto_parts.specs.Scope.{shown}
use Rattle.proto_parts.proofs.Scoping.{set-shown}
use Rattle.proto_parts.proofs.scope.Scope.set.Goals as goal

pub returns-then-at-len-clause-shown : goal.returns-then-at-len-clause-shown
returns-then-at-len-clause-shown c =
    set-shown (shown c.args.self.now) c.args.self.now.braces.items c.args.at (record { name = c.args.name; stands = Some (record { node = c.args.node; instance = c.args.instance }) }) refl
