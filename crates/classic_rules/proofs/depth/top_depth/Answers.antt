use Rattle.std.proofs.Common.{rules}
use Rattle.classic_rules.proofs.depth.top_depth.Goals as goal

pub returns : goal.returns
returns c = search rules
