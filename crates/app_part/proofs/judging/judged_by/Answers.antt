use Rattle.app_part.proofs.Judged.{good_if, bad_if, unexpanded}
use Rattle.app_part.proofs.judging.judged_by.Goals as goal

pub returns-in-Ok-clause-good : goal.returns-in-Ok-clause-good
returns-in-Ok-clause-good c =
    good_if c.args.document c.in-Ok.flat c.judged_flat-told.result c.in-Ok.ensures c.judged_flat-told.ensures.good

pub returns-in-Ok-clause-bad : goal.returns-in-Ok-clause-bad
returns-in-Ok-clause-bad c =
    bad_if c.args.document c.in-Ok.flat c.judged_flat-told.result c.in-Ok.ensures c.judged_flat-told.ensures.bad

pub returns-in-Err-clause-bad : goal.returns-in-Err-clause-bad
returns-in-Err-clause-bad c =
    unexpanded c.args.document c.in-Err.fault c.from.result c.unexpanded.result c.args.blames c.in-Err.ensures c.from.ensures c.unexpanded.ensures c.requires
