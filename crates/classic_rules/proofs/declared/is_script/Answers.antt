use Rattle.std.proofs.Common.{rules}
use Rattle.classic_rules.specs.Bounds.{is_script}
use Rattle.classic_rules.proofs.declared.is_script.Goals as goal

pub returns : goal.returns
unfolding is_script
returns c = search rules
