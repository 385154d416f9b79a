use Rattle.app_words.proofs.AskedLemmas.{no_recall_of_misfit, recall_needs}
use Rattle.app_words.proofs.asked.recall_in.Goals as goal

pub returns-in_default-clause-none : goal.returns-in_default-clause-none
returns-in_default-clause-none c = λ o h. let given = recall_needs _ o h in c.in_default.ensures.none given.0 given.1

pub returns-in-Some-recall_misfit-clause-none : goal.returns-in-Some-recall_misfit-clause-none
returns-in-Some-recall_misfit-clause-none c =
    no_recall_of_misfit _ c.is_named-info.result c.is_text_given-makes.result c.in-Some-recall_misfit.field-0 c.is_named-info.ensures c.is_text_given-makes.ensures
    c.in-Some-recall_misfit.ensures
