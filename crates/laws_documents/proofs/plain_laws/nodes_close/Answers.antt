use Rattle.laws_documents.proofs.Closing.{nodes_close}
use Rattle.laws_documents.proofs.plain_laws.nodes_close.Goals as goal

pub returns : goal.returns
returns c = nodes_close
