use Rattle.laws_documents.proofs.PlainFaults.{plain_documents_fail}
use Rattle.laws_documents.proofs.plain_faults.plain_documents_fail.Goals as goal

pub returns : goal.returns
returns c = plain_documents_fail
