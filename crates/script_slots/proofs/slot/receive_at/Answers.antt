use Rattle.std.proofs.Common.{rules}
use Rattle.script_slots.proofs.CallLemmas.{takes_at, called_at}
use Rattle.script_slots.proofs.slot.receive_at.Goals as goal

pub receive-requires : goal.receive-requires
receive-requires g c = search (rules, takes_at)

pub returns : goal.returns
returns g c = search (rules, called_at)
