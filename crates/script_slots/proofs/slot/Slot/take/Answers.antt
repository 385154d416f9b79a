use Rattle.std.proofs.Common.{rules}
use Rattle.script_slots.proofs.slot.Slot.take.Goals as goal

pub returns-clause-ok : goal.returns-clause-ok
returns-clause-ok g c = search rules
