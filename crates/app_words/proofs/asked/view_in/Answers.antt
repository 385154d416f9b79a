use Rattle.app_words.proofs.AskedLemmas.{no_view_of_misfit, view_needs}
use Rattle.app_words.proofs.asked.view_in.Goals as goal

pub returns-in_default-clause-none : goal.returns-in_default-clause-none
returns-in_default-clause-none c = λ o h. let given = view_needs _ o h in c.in_default.ensures.none given.0 given.1

pub returns-in-Some-misfit_of-clause-none : goal.returns-in-Some-misfit_of-clause-none
returns-in-Some-misfit_of-clause-none c =
    no_view_of_misfit _ c.in-Some.asked c.in-Some-misfit_of.field-0 c.in-Some.ensures.some
    (c.in-Some-misfit_of.ensures)
