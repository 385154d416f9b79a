use Rattle.laws_worlds.proofs.Countable.{is_document}
use Rattle.laws_worlds.proofs.texts.texts_have_documents.Goals as goal

pub returns : goal.returns
returns c = is_document
