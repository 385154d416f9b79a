use Rattle.pick_rules.proofs.Entering.{entry-is}
use Rattle.pick_rules.proofs.laws.entries_law.Goals as goal

pub returns : goal.returns
returns c = entry-is
