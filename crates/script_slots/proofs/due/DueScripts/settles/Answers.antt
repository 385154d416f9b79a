use Rattle.std.proofs.Common.{rules}
use Rattle.script_slots.proofs.due.DueScripts.settles.Goals as goal

pub returns : goal.returns
returns c = search rules
