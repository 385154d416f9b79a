use Rattle.std.proofs.Common.{rules}
use Rattle.script_slots.proofs.AskedLemmas.{one_more_known}
use Rattle.script_slots.proofs.asked.first_unknown.Goals as goal

pub loop-k-preserved : goal.loop-k-preserved
loop-k-preserved c = search (rules, one_more_known)
