use Rattle.share_keeping.specs.Joiners.{advanced}
use Rattle.share_keeping.proofs.Mapped.{IsMapped}
use Rattle.share_keeping.proofs.joiners.advance_all.Given as goal

abbrev pub invariant-loop-seat : goal.invariant-loop-seat
invariant-loop-seat l = IsMapped (advanced l.count) l.fn.seats l.seats l.seat-index
