use Rattle.proto_parts.proofs.Settling.{limits_are_settled}
use Rattle.proto_parts.proofs.limit_laws.limits_are_settled.Goals as goal

pub returns : goal.returns
returns c = limits_are_settled
