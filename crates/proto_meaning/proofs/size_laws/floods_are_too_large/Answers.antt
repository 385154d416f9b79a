use Rattle.proto_meaning.proofs.InRows.{floods_are_too_large}
use Rattle.proto_meaning.proofs.size_laws.floods_are_too_large.Goals as goal

pub returns : goal.returns
returns c = floods_are_too_large
