use Rattle.std.specs.Prelude.{option_map}
use Rattle.proto_parts.specs.Given as given
use Rattle.proto_parts.proofs.Scoping.{given-first, given-then}
use Rattle.proto_parts.proofs.scope.Scope.value.Goals as goal

pub returns-in-Some : goal.returns-in-Some
returns-in-Some c =
    given-first c.args.name.now (given.shown c.args.self.now.given) (given.shown c.args.self.now.defaults) c.in-Some.value.now.value
    (c.in-Some.ensures (given.shown c.args.self.now.given) c.requires.given)

pub returns-in-None : goal.returns-in-None
returns-in-None c =
    given-then c.args.name.now (given.shown c.args.self.now.given) (given.shown c.args.self.now.defaults) (option_map (λ v. v.now.value) c.value-in-None.result)
    (c.in-None.ensures (given.shown c.args.self.now.given) c.requires.given) (c.value-in-None.ensures (given.shown c.args.self.now.defaults) c.requires.defaults)
