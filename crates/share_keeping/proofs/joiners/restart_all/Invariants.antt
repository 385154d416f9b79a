use Rattle.share_keeping.specs.Joiners.{restarted}
use Rattle.share_keeping.proofs.Mapped.{IsMapped}
use Rattle.share_keeping.proofs.joiners.restart_all.Given as goal

abbrev pub invariant-loop-seat : goal.invariant-loop-seat
invariant-loop-seat l = IsMapped restarted l.fn.seats l.seats l.seat-index
