use Rattle.std.proofs.Common.{◌∙◌, ap}
use Rattle.proto_parts.specs.Fields.{added, fields_of}
use Rattle.proto_parts.proofs.Naming.{names-more, is-new}
use Rattle.proto_parts.proofs.fields.add_named.Goals as goal

pub returns-clause-named : goal.returns-clause-named
returns-clause-named c =
    λ first fs is has. names-more c.args.named.now c.add.new.self c.args.declaration.now first c.args.number fs is
    (c.in_ok-new.ensures.fields ∙ ap (λ k. added k c.args.declaration.now.name (fields_of c.args.named.now)) c.known.ensures) has

pub returns-clause-new : goal.returns-clause-new
returns-clause-new c =
    λ first fs has. is-new c.args.named.now first c.args.declaration.now.name fs c.in_ok-new.new c.in_ok-new.ensures.new has
