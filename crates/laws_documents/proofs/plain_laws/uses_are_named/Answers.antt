use Rattle.laws_documents.proofs.Uses.{uses_are_named}
use Rattle.laws_documents.proofs.plain_laws.uses_are_named.Goals as goal

pub returns : goal.returns
returns c = uses_are_named
