use Rattle.classic_text.proofs.Documents.{one_document}
use Rattle.classic_text.proofs.laws.texts_spell_one_document.Goals as goal

pub returns : goal.returns
returns c = one_document
