use Rattle.std.proofs.Common.{◌≡◌, true, take}
use Rattle.share_logged.specs.Notes.{IsSentInTurn, sent_for_all}
use Rattle.share_logged.proofs.turn.answer_all.Given as goal

abbrev pub invariant-loop-note : goal.invariant-loop-note
invariant-loop-note g l =
    IsSentInTurn true (g.P.Port.told l.initial.port) (g.P.Port.told l.port) (sent_for_all l.host.mark l.host.part (take l.note-index l.notes))
    × (g.P.Port.failure_count l.port ≡ g.P.Port.failure_count l.initial.port)
    × (g.P.Port.rested l.port ≡ g.P.Port.rested l.initial.port)
