use Rattle.app_part.proofs.Parting.{ordered_part}
use Rattle.app_part.proofs.streams.ordered_part.Goals as goal

pub returns-clause-part : goal.returns-clause-part
returns-clause-part c =
    ordered_part c.args.bytes.now c.in_ok-part.part c.in_ok-shown.shown c.in_ok-part.ensures.made c.in_ok-part.ensures.good c.in_ok-shown.ensures
