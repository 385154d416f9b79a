use Rattle.laws_documents.proofs.Routes.{routes_are_read}
use Rattle.laws_documents.proofs.plain_laws.routes_are_read.Goals as goal

pub returns : goal.returns
returns c = routes_are_read
