use Rattle.std.proofs.Common.{◌∙◌, ap, sym}
use Rattle.proto_parts.specs.Fields.{added, fields_of}
use Rattle.proto_parts.proofs.Naming.{exposed-more, exposed-stays}
use Rattle.proto_parts.proofs.fields.add_exposed.Goals as goal

pub returns-then-not-is_exposed : goal.returns-then-not-is_exposed
returns-then-not-is_exposed c =
    λ fs has. exposed-stays c.args.exposed.now c.args.declaration.now fs (sym c.is_exposed.ensures ∙ c.if-not-is_exposed.true) has

pub returns : goal.returns
returns c =
    λ fs has. exposed-more c.args.exposed.now c.add.new.self c.args.declaration.now 0 fs (sym c.is_exposed.ensures ∙ c.if-not-is_exposed.false)
    (c.in_ok-add.ensures.fields ∙ ap (λ k. added k c.args.declaration.now.name (fields_of c.args.exposed.now)) c.known.ensures) has
