use Rattle.embed_parts.proofs.Opening.{opened}
use Rattle.embed_parts.proofs.part.EmbeddedPart.open.Goals as goal

pub returns : goal.returns
returns c =
    opened c.args.text.now c.in_ok-part.part c.told_in_order.result c.in_ok-part.ensures.made
    c.in_ok-part.ensures.good c.told_in_order.ensures.made c.told_in_order.ensures.refused
