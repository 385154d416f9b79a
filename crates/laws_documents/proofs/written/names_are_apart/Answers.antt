use Rattle.laws_documents.proofs.WrittenWhole.{names_are_apart}
use Rattle.laws_documents.proofs.written.names_are_apart.Goals as goal

pub returns : goal.returns
returns c = names_are_apart
