use Rattle.std.proofs.Common.{rules}
use Rattle.classic_rules.proofs.declared.holds_value.Goals as goal

pub returns-in-InputOnly : goal.returns-in-InputOnly
returns-in-InputOnly c = search rules
