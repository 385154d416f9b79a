use Rattle.app_part.proofs.Texts.{answer_if}
use Rattle.app_part.proofs.checks.answered.Goals as goal

pub returns-in-Err-clause-bad : goal.returns-in-Err-clause-bad
returns-in-Err-clause-bad c = answer_if c.args.document c.in-Err.fault c.answer.result c.in-Err.ensures.bad c.answer.ensures
