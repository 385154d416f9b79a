use Rattle.app_part.proofs.Parting.{refused_check}
use Rattle.app_part.proofs.part.part_of_text.Goals as goal

pub returns-clause-refused : goal.returns-clause-refused
returns-clause-refused c =
    refused_check c.args.text.now c.in_ok-part.part c.checked.result c.in_ok-part.ensures.made c.checked.ensures.refused
