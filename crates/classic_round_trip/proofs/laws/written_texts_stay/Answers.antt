use Rattle.classic_round_trip.proofs.LinedDocuments.{texts_stay}
use Rattle.classic_round_trip.proofs.laws.written_texts_stay.Goals as goal

pub returns : goal.returns
returns c = texts_stay c.texts_spell_one_document.ensures
