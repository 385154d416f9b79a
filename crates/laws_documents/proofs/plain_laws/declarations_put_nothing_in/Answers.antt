use Rattle.laws_documents.proofs.WithoutWhole.{declarations_put_nothing_in}
use Rattle.laws_documents.proofs.plain_laws.declarations_put_nothing_in.Goals as goal

pub returns : goal.returns
returns c = declarations_put_nothing_in
