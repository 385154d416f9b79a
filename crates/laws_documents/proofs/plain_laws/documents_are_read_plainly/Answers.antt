use Rattle.laws_documents.proofs.BesideWhole.{documents_are_read_plainly}
use Rattle.laws_documents.proofs.plain_laws.documents_are_read_plainly.Goals as goal

pub returns : goal.returns
returns c = documents_are_read_plainly
