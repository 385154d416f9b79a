use Rattle.proto_meaning.proofs.InRows.{bare_instances_stand_in_rows}
use Rattle.proto_meaning.proofs.size_laws.bare_instances_stand_in_rows.Goals as goal

pub returns : goal.returns
returns c = bare_instances_stand_in_rows
