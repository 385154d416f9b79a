use Rattle.laws_documents.proofs.Named.{spelled_flats_are_named}
use Rattle.laws_documents.proofs.spelled.spelled_flats_are_named.Goals as goal

pub returns : goal.returns
returns c = spelled_flats_are_named
