use Rattle.std.proofs.Common.{◌≡◌, ◌++◌, ◌∷◌, [], None, rules, subst, sym}
use Rattle.proto_parts.specs.Names.{Knows, opened}
use Rattle.proto_parts.proofs.Scopes.{opens-named, opens-nameless}
use Rattle.proto_parts.proofs.names.Names.open.Goals as goal

pub returns-in_default : goal.returns-in_default
returns-in_default c =
    let none : c.args.name.now ≡ None = search rules in
    λ braces is k. subst (λ n. Knows c.args.self.now (braces ++ opened n ∷ [])) (sym none) (opens-nameless c.args.self.now c.args.at braces is k)

pub returns : goal.returns
returns c =
    λ braces is k. subst (λ n. Knows c.know_begun.new.self (braces ++ opened n ∷ [])) (sym c.in-Some.is)
    (opens-named c.args.self.now c.know_begun.new.self c.in-Some.name c.args.at braces is k c.in_ok-know_begun.ensures.begun c.in_ok-know_begun.ensures.closed)
