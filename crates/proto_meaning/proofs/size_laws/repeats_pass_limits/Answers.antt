use Rattle.proto_meaning.proofs.InRows.{repeats_pass_limits}
use Rattle.proto_meaning.proofs.size_laws.repeats_pass_limits.Goals as goal

pub returns : goal.returns
returns c = repeats_pass_limits
