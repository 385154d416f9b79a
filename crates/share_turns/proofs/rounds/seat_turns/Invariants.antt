use Rattle.std.proofs.Common.{◌≡◌, ◌≤◌, length}
use Rattle.share_turns.specs.Seats.{seats_of, ways_of, SeatTurns}
use Rattle.share_turns.proofs.rounds.seat_turns.Given as goal

abbrev pub invariant-loop-who : goal.invariant-loop-who
invariant-loop-who g l =
    SeatTurns (ways_of g.P.Port.told g.P.Port.failure_count) l.step l.host l.who (seats_of l.fn.viewers l.fn.ports) l.offered (seats_of l.viewers l.ports)
    × (l.who-end ≡ length l.fn.viewers) × (l.who ≤ l.who-end)
    × (length l.viewers ≡ length l.fn.viewers)
    × (length l.ports ≡ length l.fn.viewers)
