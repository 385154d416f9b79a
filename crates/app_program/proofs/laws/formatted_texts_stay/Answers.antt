use Rattle.app_program.proofs.Stays.{texts_stay}
use Rattle.app_program.proofs.laws.formatted_texts_stay.Goals as goal

pub returns : goal.returns
returns c =
    texts_stay c.spelled_documents_are_spellable.ensures.with_lines c.spellable_documents_are_written.ensures.any_length c.written_texts_stay.ensures
