use Rattle.app_part.proofs.Parting.{part_texts}
use Rattle.app_part.proofs.streams.texts_of.Goals as goal

pub returns-clause-texts : goal.returns-clause-texts
returns-clause-texts c =
    part_texts c.args.bytes.now c.in_ok-part.part c.with_told.result c.in_ok-part.ensures.part c.with_told.ensures.texts
