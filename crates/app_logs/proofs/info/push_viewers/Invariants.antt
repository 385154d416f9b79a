use Rattle.std.proofs.Common.{◌≡◌, ◌++◌}
use Rattle.app_logs.specs.Info.{offers_text}
use Rattle.app_logs.proofs.info.push_viewers.Given as goal

abbrev pub invariant-loop-who : goal.invariant-loop-who
invariant-loop-who l = l.out.items ≡ l.fn.out.items ++ offers_text l.who l.entries
