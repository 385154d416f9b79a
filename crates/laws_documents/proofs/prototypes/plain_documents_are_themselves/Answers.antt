use Rattle.laws_documents.proofs.PlainWalk.{plain_documents_are_themselves}
use Rattle.laws_documents.proofs.prototypes.plain_documents_are_themselves.Goals as goal

pub returns : goal.returns
returns c = plain_documents_are_themselves
