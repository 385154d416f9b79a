use Rattle.std.proofs.Common.{rules}
use Rattle.script_slots.proofs.asked.starts_in.Goals as goal

pub returns : goal.returns
returns c = search rules
