use Rattle.std.proofs.Common.{◌≡◌, drop}
use Rattle.std.specs.Prelude.{int_lt}
use Rattle.std.specs.List.{find}
use Rattle.app_standby.proofs.pace.first_later.Given as goal

abbrev pub invariant-loop-time : goal.invariant-loop-time
invariant-loop-time l = find (int_lt l.last) (drop l.time-index l.clocks) ≡ find (int_lt l.last) l.clocks
