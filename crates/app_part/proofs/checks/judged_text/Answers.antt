use Rattle.app_part.proofs.Texts.{no_scene_if, scene_if, unread_if}
use Rattle.app_part.proofs.checks.judged_text.Goals as goal

pub returns-in-Ok-clause-good : goal.returns-in-Ok-clause-good
returns-in-Ok-clause-good c =
    scene_if c.args.text.now c.in-Ok.document c.judged_as.result c.in-Ok.ensures.exact c.judged_as.ensures.same c.judged_as.ensures.good

pub returns-in-Ok-clause-refused : goal.returns-in-Ok-clause-refused
returns-in-Ok-clause-refused c =
    no_scene_if c.args.text.now c.in-Ok.document c.judged_as.result c.in-Ok.ensures.exact c.judged_as.ensures.bad

pub returns-in-Err-clause-refused : goal.returns-in-Err-clause-refused
returns-in-Err-clause-refused c =
    unread_if c.args.text.now c.in-Err.fault c.from.result c.answer.result c.in-Err.ensures.exact c.from.ensures c.answer.ensures
