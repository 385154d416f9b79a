use Rattle.share_keeping.specs.Joiners.{after_time}
use Rattle.share_keeping.proofs.Mapped.{IsMapped}
use Rattle.share_keeping.proofs.joiners.pass_all.Given as goal

abbrev pub invariant-loop-seat : goal.invariant-loop-seat
invariant-loop-seat l = IsMapped (after_time l.millis) l.fn.seats l.seats l.seat-index
