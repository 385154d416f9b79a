use Rattle.std.proofs.Common.{◌≡◌, true, take}
use Rattle.share_logged.specs.Notes.{IsSentInTurn}
use Rattle.share_keeping.specs.Giving.{given}
use Rattle.share_keeping.proofs.giving.give_seats.Given as goal

abbrev pub invariant-loop-seat : goal.invariant-loop-seat
invariant-loop-seat g l =
    IsSentInTurn true (g.P.Port.told l.initial.port) (g.P.Port.told l.port) (given l.mark l.shot (take l.seat-index l.seats))
    × (g.P.Port.rested l.port ≡ g.P.Port.rested l.initial.port)
