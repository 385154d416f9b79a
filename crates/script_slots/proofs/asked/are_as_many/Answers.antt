use Rattle.std.proofs.Common.{rules}
use Rattle.script_slots.proofs.asked.are_as_many.Goals as goal

pub returns : goal.returns
returns c = search rules
