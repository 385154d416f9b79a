use Rattle.app_program.proofs.format.text_of.Goals as goal

pub returns-in_err-write-clause-again : goal.returns-in_err-write-clause-again
returns-in_err-write-clause-again c = λ text h.
    c.spellable_documents_are_written.ensures.any_length c.args.document.now
    (c.spelled_documents_are_spellable.ensures.with_lines text c.args.document.now h)

pub returns-clause-again : goal.returns-clause-again
returns-clause-again c = λ text h.
    c.spellable_documents_are_written.ensures.any_length c.args.document.now
    (c.spelled_documents_are_spellable.ensures.with_lines text c.args.document.now h)
