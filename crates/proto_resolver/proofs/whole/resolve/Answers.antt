use Rattle.std.proofs.Common.{subst}
use Rattle.proto_meaning.specs.trees.Resolved.{AreStatements}
use Rattle.proto_resolver.specs.Standing.{Resolves}
use Rattle.proto_resolver.proofs.Interiors.{whole_text}
use Rattle.proto_resolver.proofs.whole.resolve.Goals as goal

pub returns : goal.returns
returns c =
    whole_text (record { scopes = c.new.result; protos = c.new-2.result }) c.resolve_body.new.resolver c.in_ok-tree.field-0.wrong c.args.document.now.statements c.in_ok-tree.field-0.tree
    c.new-2.ensures c.new.ensures.here c.new.ensures.outside c.new.ensures.takes
    (subst (λ xs. Resolves (record { scopes = c.new.result; protos = c.new-2.result }) c.resolve_body.new.resolver c.in_ok-tree.field-0.wrong (λ ps s r. AreStatements ps xs c.in_ok-tree.field-0.tree s r)) c.as_slice.ensures c.in_ok-tree.ensures)
