use Rattle.std.proofs.Common.{◌≡◌, ◌≤◌, length}
use Rattle.share_turns.specs.Seats.{ways_of}
use Rattle.share_turns.specs.Round.{meeting}
use Rattle.share_turns.specs.Agreeing.{Rounds}
use Rattle.share_turns.proofs.rounds.agree_until.Given as goal

abbrev pub invariant-loop-round : goal.invariant-loop-round
invariant-loop-round g l =
    Rounds (ways_of g.P.Port.told g.P.Port.failure_count) l.fn.host.mark l.steps l.own l._round
    (meeting l.fn.host.part l.fn.port l.fn.viewers l.fn.ports)
    l.issued
    (meeting l.host.part l.port l.viewers l.ports)
    × (l.host.mark ≡ l.fn.host.mark)
    × (length l.viewers ≡ length l.fn.viewers)
    × (length l.ports ≡ length l.fn.viewers)
    × (l.issued ≤ l._round)
