use Rattle.app_part.proofs.Texts.{first_fault, less_made, less_refused, whole_made, whole_refused}
use Rattle.app_part.proofs.part.draft.Goals as goal

pub returns-in-Ok-clause-made : goal.returns-in-Ok-clause-made
returns-in-Ok-clause-made c =
    whole_made c.args.text.now c.in-Ok.opened c.written_part.result c.in-Ok.ensures c.written_part.ensures.made

pub returns-in-Ok-clause-refused : goal.returns-in-Ok-clause-refused
returns-in-Ok-clause-refused c =
    whole_refused c.args.text.now c.in-Ok.opened c.written_part.result c.in-Ok.ensures c.written_part.ensures.refused

pub returns-else-is_memory-clause-made : goal.returns-else-is_memory-clause-made
returns-else-is_memory-clause-made c =
    less_made c.args.text.now c.in-Err.fault c.lesser_part.result
    (first_fault c.args.text.now c.in-Err.fault c.is_memory.result c.in-Err.ensures c.is_memory.ensures c.if-is_memory.false) c.lesser_part.ensures.made

pub returns-else-is_memory-clause-refused : goal.returns-else-is_memory-clause-refused
returns-else-is_memory-clause-refused c =
    less_refused c.args.text.now c.in-Err.fault c.lesser_part.result
    (first_fault c.args.text.now c.in-Err.fault c.is_memory.result c.in-Err.ensures c.is_memory.ensures c.if-is_memory.false) c.lesser_part.ensures.refused
