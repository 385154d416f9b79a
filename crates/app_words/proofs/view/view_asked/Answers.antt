use Rattle.app_words.proofs.view.view_asked.Goals as goal

pub returns-in_default-clause-none : goal.returns-in_default-clause-none
returns-in_default-clause-none c = λ o h.
    c.in_default.ensures.none (record { host = o.port; at = o.at; give = o.give }) (record { host = h.port; at = h.at; give = h.give })

pub returns-in_default-who_in-clause-none : goal.returns-in_default-who_in-clause-none
returns-in_default-who_in-clause-none c = λ o h. c.in_default-who_in.ensures.none o.who h.who

pub returns-in_default-boot_in-clause-none : goal.returns-in_default-boot_in-clause-none
returns-in_default-boot_in-clause-none c = λ o h. c.in_default-boot_in.ensures.none o.boot h.boot

pub returns-in_default-end_in-clause-none : goal.returns-in_default-end_in-clause-none
returns-in_default-end_in-clause-none c = λ o h. c.in_default-end_in.ensures.none o.end h.end

pub returns-in_default-view_turns_in-clause-none : goal.returns-in_default-view_turns_in-clause-none
returns-in_default-view_turns_in-clause-none c = λ o h.
    c.in_default-view_turns_in.ensures.none (record { all = o.turns; give = o.give_turns }) (record { all = h.turns; give = h.give_turns })

pub returns-in_default-wire_in-clause-none : goal.returns-in_default-wire_in-clause-none
returns-in_default-wire_in-clause-none c = λ o h. c.in_default-wire_in.ensures.none o.wire h.wire

pub returns-in_default-forget_in-clause-none : goal.returns-in_default-forget_in-clause-none
returns-in_default-forget_in-clause-none c = λ o h. c.in_default-forget_in.ensures.none o.forget h.forget
