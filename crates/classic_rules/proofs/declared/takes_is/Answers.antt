use Rattle.std.proofs.Common.{rules}
use Rattle.classic_rules.proofs.declared.takes_is.Goals as goal

pub returns-in-Interface : goal.returns-in-Interface
returns-in-Interface c = search rules
