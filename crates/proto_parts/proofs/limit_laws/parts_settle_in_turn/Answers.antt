use Rattle.proto_parts.proofs.Settling.{parts_settle_in_turn}
use Rattle.proto_parts.proofs.limit_laws.parts_settle_in_turn.Goals as goal

pub returns : goal.returns
returns g c = parts_settle_in_turn
