use Rattle.proto_meaning.proofs.InRows.{rows_are_sums}
use Rattle.proto_meaning.proofs.size_laws.rows_are_sums.Goals as goal

pub returns : goal.returns
returns c = rows_are_sums
