use Rattle.std.proofs.Common.{subst, sym}
use Rattle.proto_meaning.specs.Flat.{header_of}
use Rattle.proto_nodes.specs.Protos.{Knows}
use Rattle.proto_expand.proofs.Resolved.{as-document, in-slices, resolved-tied}
use Rattle.proto_expand.proofs.Sized.{text_sized}
use Rattle.proto_expand.proofs.document.content_of.Goals as goal

pub returns : goal.returns
returns c =
    let r = in-slices c.args.document.now.statements c.in_ok-text.text.protos c.as_slice-trees.result.now c.in_ok-text.text.statements c.as_slice-statements.result.now c.in_ok-text.ensures c.as_slice-trees.ensures c.as_slice-statements.ensures in
    as-document c.args.document.now c.as_slice-trees.result.now c.as_slice-statements.result.now r c.walk.result
    (c.walk.ensures r.prototypes (header_of c.args.document.now)
    (subst (λ ps. Knows r.prototypes ps) (sym c.as_slice.ensures.value) (c.in_ok-protos.ensures r.prototypes (resolved-tied c.args.document.now.statements c.as_slice-trees.result.now c.as_slice-statements.result.now r)))
    (text_sized r.prototypes c.args.document.now.statements c.as_slice-statements.result.now r.seen r.are))
