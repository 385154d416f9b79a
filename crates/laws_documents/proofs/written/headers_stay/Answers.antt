use Rattle.laws_documents.proofs.Heads.{headers_stay}
use Rattle.laws_documents.proofs.written.headers_stay.Goals as goal

pub returns : goal.returns
returns c = headers_stay
