use Rattle.share_turns.specs.Seats.{ways_of}
use Rattle.laws_turns.proofs.Rounds.{rounds_are_calls}
use Rattle.laws_turns.proofs.law.rounds_law.Goals as goal

pub returns : goal.returns
returns g c = rounds_are_calls (ways_of g.P.Port.told g.P.Port.failure_count)
