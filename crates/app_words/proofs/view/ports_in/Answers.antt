use Rattle.app_words.proofs.view.ports_in.Goals as goal

pub returns-in_default-clause-none : goal.returns-in_default-clause-none
returns-in_default-clause-none c = λ p h. c.in_default.ensures.none p.host h.host

pub returns-in_default-at_in-clause-none : goal.returns-in_default-at_in-clause-none
returns-in_default-at_in-clause-none c = λ p h. c.in_default-at_in.ensures.none p.at h.at

pub returns-in_default-give_in-clause-none : goal.returns-in_default-give_in-clause-none
returns-in_default-give_in-clause-none c = λ p h. c.in_default-give_in.ensures.none p.give h.give
