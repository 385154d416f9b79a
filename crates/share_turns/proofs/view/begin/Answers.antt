use Rattle.std.proofs.Common.{refl}
use Rattle.share_turns.proofs.Whole.{begun_as}
use Rattle.share_turns.proofs.view.begin.Goals as goal

pub returns-in-Some-clause-done : goal.returns-in-Some-clause-done
returns-in-Some-clause-done g c =
    rw c.in-Some.is (begun_as c.join_run.result _ _ _ c.join_run.ensures.most c.join_run.ensures.done c.join_run.ensures.others)

pub returns-in-None-clause-done : goal.returns-in-None-clause-done
returns-in-None-clause-done g c = rw c.in-None.is (refl, refl, refl)
