use Rattle.app_words.proofs.AskedLemmas.{agree_needs}
use Rattle.app_words.proofs.asked.agree_in.Goals as goal

pub returns-in_default-turns_in-clause-none : goal.returns-in_default-turns_in-clause-none
returns-in_default-turns_in-clause-none c = λ o h. let given = agree_needs _ o h in c.in_default-turns_in.ensures.none given.1 given.3
