use Rattle.std.proofs.Common.{◌≡◌, take}
use Rattle.std.specs.List.{fold}
use Rattle.app_standby.specs.Pace.{followed}
use Rattle.app_standby.proofs.pace.Pace.hear.Given as goal

abbrev pub invariant-loop-entry : goal.invariant-loop-entry
invariant-loop-entry l = l.self ≡ fold followed (record l.fn.self { silent = 0 }) (take l.entry-index l.entries)
