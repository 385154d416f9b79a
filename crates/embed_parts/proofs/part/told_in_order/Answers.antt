use Rattle.embed_parts.proofs.Opening.{in_order}
use Rattle.embed_parts.proofs.part.told_in_order.Goals as goal

pub returns-clause-made : goal.returns-clause-made
returns-clause-made c =
    in_order c.args.part c.in_ok-part.part c.with_notes.result c.in_ok-part.ensures
    c.with_notes.ensures.told
