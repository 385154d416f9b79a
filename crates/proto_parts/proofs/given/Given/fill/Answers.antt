use Rattle.std.proofs.Common.{ap, map}
use Rattle.proto_parts.specs.Given.{filled_of, held}
use Rattle.proto_parts.proofs.Filling.{filled-then}
use Rattle.proto_parts.proofs.given.Given.fill.Goals as goal

pub returns : goal.returns
returns c =
    λ filled holds none. filled-then c.args.self.now c.know.new.self c.push.new.self filled c.args.name.now (held c.in_ok-value.value) c.args.field holds none
    (ap (map (λ e. filled_of e.0.now e.1)) (ap (λ v. v.items) c.know.ensures.fields)) c.in_ok-know.ensures.values c.in_ok-value.ensures
    c.in_ok-push.ensures.fields c.push.ensures.values
