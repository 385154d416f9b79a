use Rattle.std.proofs.Common.{◌∙◌, ap, map}
use Rattle.proto_meaning.specs.Flat.{field}
use Rattle.proto_expand.proofs.whole.known.Goals as goal

pub returns : goal.returns
returns c = ap (λ i. (c.args.tree.now, i)) (c.in_ok-interface.ensures ∙ ap (λ ds. map field ds) c.as_slice.ensures)
