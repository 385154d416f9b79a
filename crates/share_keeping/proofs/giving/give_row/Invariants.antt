use Rattle.std.proofs.Common.{◌≡◌, true}
use Rattle.share_turns.specs.Exchanges.{AreSent}
use Rattle.share_keeping.specs.Giving.{texts_from}
use Rattle.share_keeping.proofs.giving.give_row.Given as goal

abbrev pub invariant-loop-more : goal.invariant-loop-more
invariant-loop-more g l =
    AreSent true l.joiner.peer (g.P.Port.told l.initial.port) (g.P.Port.told l.port) (texts_from l.mark l.shot l.joiner.next l.more)
    × (g.P.Port.rested l.port ≡ g.P.Port.rested l.initial.port)
