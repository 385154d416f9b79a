use Rattle.app_part.proofs.Parting.{lesser, unmended}
use Rattle.app_part.proofs.Texts.{no_document}
use Rattle.app_part.proofs.part.lesser_part.Goals as goal

pub returns-in-Ok-clause-made : goal.returns-in-Ok-clause-made
returns-in-Ok-clause-made c =
    lesser c.args.text.now c.args.first c.in-Ok.lenient c.part_of_lenient.result c.in-Ok.ensures.read c.part_of_lenient.ensures.made

pub returns-in-Ok-clause-refused : goal.returns-in-Ok-clause-refused
returns-in-Ok-clause-refused c =
    unmended c.args.text.now c.args.first c.in-Ok.lenient c.part_of_lenient.result c.in-Ok.ensures.read c.part_of_lenient.ensures.refused

pub returns-in-Err-clause-refused : goal.returns-in-Err-clause-refused
returns-in-Err-clause-refused c =
    λ bad. no_document c.args.text.now c.in-Err.fault c.from.result c.in-Err.ensures.refused c.from.ensures
