use Rattle.std.proofs.Common.{◌≡◌}
use Rattle.cascade_core.specs.Course.{wiring_at, seen}
use Rattle.cascade_core.specs.Resting.{HasSameScripts, IsAtRest}
use Rattle.cascade_core.specs.Settles.{settle_up_to}
use Rattle.cascade_core.proofs.SettleLemmas.{due_left}
use Rattle.cascade_core.proofs.settle.settle.Given as goal

-- the course now, after the scripts that are left have settled, is what the definition gives for all
abbrev pub invariant-loop-k : goal.invariant-loop-k
invariant-loop-k g l = record {
  rest : IsAtRest l.routed l.buffers (seen l.course);
  scripts : HasSameScripts (seen l.fn.course) (seen l.course);
  done :
      settle_up_to (wiring_at l.routed) l.fn.course.settling.count (seen l.course)
      ≡ settle_up_to (wiring_at l.routed) l.fn.course.settling.count (seen l.fn.course);
}

abbrev pub decreases-loop-k : goal.decreases-loop-k
decreases-loop-k g l = due_left (wiring_at l.routed) (seen l.course)
