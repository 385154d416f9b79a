use Rattle.std.proofs.Common.{ap, sym, ◌∙◌}
use Rattle.std.specs.Prelude.{option_map}
use Rattle.proto_parts.specs.declared.names.Closed.{Closed}
use Rattle.proto_parts.proofs.Scopes.{used-is}
use Rattle.proto_parts.proofs.names.Names.used.Goals as goal

pub returns-in-None : goal.returns-in-None
returns-in-None c =
    λ braces k. ap (option_map (λ (x : Closed). x.node)) (sym c.in-None.is ∙ c.closed.ensures) ∙ used-is c.args.self.now c.args.name.now braces k

pub returns-in-Some : goal.returns-in-Some
returns-in-Some c =
    λ braces k. ap (option_map (λ (x : Closed). x.node)) (sym c.in-Some.is ∙ c.closed.ensures) ∙ used-is c.args.self.now c.args.name.now braces k
