use Rattle.app_words.proofs.host.kept_in.Goals as goal

pub returns-in_default-clause-none : goal.returns-in_default-clause-none
returns-in_default-clause-none c = λ k h. c.in_default.ensures.none k.keep h.keep

pub returns-in_default-forget_in-clause-none : goal.returns-in_default-forget_in-clause-none
returns-in_default-forget_in-clause-none c = λ k h. c.in_default-forget_in.ensures.none k.forget h.forget
