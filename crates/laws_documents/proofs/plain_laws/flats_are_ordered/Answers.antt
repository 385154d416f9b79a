use Rattle.laws_documents.proofs.Order.{flats_are_ordered}
use Rattle.laws_documents.proofs.plain_laws.flats_are_ordered.Goals as goal

pub returns : goal.returns
returns c = flats_are_ordered
