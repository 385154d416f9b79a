use Rattle.laws_documents.proofs.WrittenWhole.{flats_are_limited}
use Rattle.laws_documents.proofs.written.flats_are_limited.Goals as goal

pub returns : goal.returns
returns c = flats_are_limited
