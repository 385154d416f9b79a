use Rattle.app_words.proofs.serve.serve_asked.Goals as goal

pub returns-in_default-clause-none : goal.returns-in_default-clause-none
returns-in_default-clause-none c = λ o h. c.in_default.ensures.none o.port h.port

pub returns-in_default-viewers_or_none-clause-none : goal.returns-in_default-viewers_or_none-clause-none
returns-in_default-viewers_or_none-clause-none c = λ o h. c.in_default-viewers_or_none.ensures.none o.viewers h.viewers

pub returns-in_default-kept_in-clause-none : goal.returns-in_default-kept_in-clause-none
returns-in_default-kept_in-clause-none c = λ o h.
    c.in_default-kept_in.ensures.none (record { keep = o.keep; forget = o.forget }) (record { keep = h.keep; forget = h.forget })

pub returns-in_default-base_in-clause-none : goal.returns-in_default-base_in-clause-none
returns-in_default-base_in-clause-none c = λ o h. c.in_default-base_in.ensures.none o.base h.base

pub returns-in_default-every_in-clause-none : goal.returns-in_default-every_in-clause-none
returns-in_default-every_in-clause-none c = λ o h. c.in_default-every_in.ensures.none o.every h.every
