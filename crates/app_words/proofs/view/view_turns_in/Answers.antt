use Rattle.app_words.proofs.view.view_turns_in.Goals as goal

pub returns-in_default-clause-none : goal.returns-in_default-clause-none
returns-in_default-clause-none c = λ t h. c.in_default.ensures.none t.all h.all

pub returns-in_default-give_turns_in-clause-none : goal.returns-in_default-give_turns_in-clause-none
returns-in_default-give_turns_in-clause-none c = λ t h. c.in_default-give_turns_in.ensures.none t.give h.give
