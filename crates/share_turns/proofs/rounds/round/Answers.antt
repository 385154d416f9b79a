use Rattle.share_turns.proofs.rounds.round.Goals as goal

pub returns-clause-done : goal.returns-clause-done
returns-clause-done g c =
    let turn = rw c.clock_of.ensures at c.in_ok-host_turn.ensures.turn in
    record {
      first = record { turn = turn; failures = c.in_ok-host_turn.ensures.failures };
      offered = c.in_ok-offered.offered;
      seated = c.in_ok-offered.ensures.done;
      is = c.is_issued.ensures;
    }
