use Rattle.std.proofs.Common.{rules}
use Rattle.share_turns.specs.Seats.{seats_of, ways_of}
use Rattle.share_turns.proofs.Meeting.{one_more_seat}
use Rattle.share_turns.proofs.rounds.seat_turns.Goals as goal

pub loop-who-preserved : goal.loop-who-preserved
loop-who-preserved g c =
    let ways = ways_of g.P.Port.told g.P.Port.failure_count in
    let old = seats_of c.args.viewers.now c.args.ports.now in
    let mid = seats_of c.loop-who.viewers c.loop-who.ports in
    let new = seats_of c.seat_turn.new.viewers c.seat_turn.new.ports in (
      one_more_seat ways c.args.step.now c.args.host c.loop-who.who old mid new c.loop-who.offered c.in_ok-did.did c.either-offered.result
          c.loop-who.invariant.0 c.in_ok-did.ensures c.either-offered.ensures,
      search rules,
      search rules,
      search rules,
      search rules,
    )
