use Rattle.proto_parts.proofs.Filling.{pushed}
use Rattle.proto_parts.proofs.given.Given.push.Goals as goal

pub returns-clause-fields : goal.returns-clause-fields
returns-clause-fields c =
    pushed c.args.self.now.fields.items c.push.new.self.items (λ k. k.now) c.as_str.result c.args.field c.args.name.now c.in_ok-push.ensures.items c.as_str.ensures
