use Rattle.std.proofs.Common.{rules}
use Rattle.pick_rules.proofs.crossing.is_less.Goals as goal

pub returns : goal.returns
returns c = search rules
