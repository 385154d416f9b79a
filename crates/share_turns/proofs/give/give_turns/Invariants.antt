use Rattle.std.proofs.Common.{◌≡◌}
use Rattle.share_turns.specs.Gives.{GiveTurns}
use Rattle.share_turns.proofs.give.give_turns.Given as goal

abbrev pub invariant-loop-turn : goal.invariant-loop-turn
invariant-loop-turn g l =
    GiveTurns l.mark l.bytes l.to l.turn (g.P.Port.told l.fn.port) (g.P.Port.told l.port)
    × (g.P.Port.failure_count l.port ≡ g.P.Port.failure_count l.fn.port)
