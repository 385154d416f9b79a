use Rattle.app_words.proofs.AskedLemmas.{host_needs, no_host_of_misfit}
use Rattle.app_words.proofs.asked.host_in.Goals as goal

pub returns-in_default-clause-none : goal.returns-in_default-clause-none
returns-in_default-clause-none c = λ o h. let given = host_needs _ o h in c.in_default.ensures.none given.0 given.1

pub returns-in-Some-host_misfit-clause-none : goal.returns-in-Some-host_misfit-clause-none
returns-in-Some-host_misfit-clause-none c =
    no_host_of_misfit _ c.in-Some.asked c.in-Some-host_misfit.field-0 c.in-Some.ensures.some
    (c.in-Some-host_misfit.ensures)
