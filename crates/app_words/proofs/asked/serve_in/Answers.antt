use Rattle.app_words.proofs.AskedLemmas.{no_serve_of_misfit, serve_needs}
use Rattle.app_words.proofs.asked.serve_in.Goals as goal

pub returns-in_default-clause-none : goal.returns-in_default-clause-none
returns-in_default-clause-none c = λ o h. let given = serve_needs _ o h in c.in_default.ensures.none given.0 given.1

pub returns-in-Some-serve_misfit-clause-none : goal.returns-in-Some-serve_misfit-clause-none
returns-in-Some-serve_misfit-clause-none c =
    no_serve_of_misfit _ c.in-Some.asked c.in-Some-serve_misfit.field-0 c.in-Some.ensures.some
    (c.in-Some-serve_misfit.ensures)
