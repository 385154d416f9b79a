use Rattle.share_rehearsal.proofs.Joining.{joiners_stand, pieces_hold}
use Rattle.share_rehearsal.proofs.Leaving.{host_holds, times_rise, viewers_agree, viewers_hold, windows_hold}
use Rattle.share_rehearsal.proofs.Telling.{memory_is_logged}
use Rattle.share_rehearsal.proofs.law.rehearsal_law.Goals as goal

pub returns-clause-equality : goal.returns-clause-equality
returns-clause-equality c = viewers_hold c.agreement_law.ensures.equality

pub returns-clause-two_viewers : goal.returns-clause-two_viewers
returns-clause-two_viewers c = viewers_agree c.agreement_law.ensures.two_viewers

pub returns-clause-window : goal.returns-clause-window
returns-clause-window c = windows_hold c.agreement_law.ensures.window

pub returns-clause-times : goal.returns-clause-times
returns-clause-times c = times_rise c.agreement_law.ensures.list_grows

pub returns-clause-floor : goal.returns-clause-floor
returns-clause-floor c = host_holds c.agreement_law.ensures.floor

pub returns-clause-pieces : goal.returns-clause-pieces
returns-clause-pieces c = pieces_hold c.agreement_law.ensures.pieces

pub returns-clause-joins : goal.returns-clause-joins
returns-clause-joins c = joiners_stand c.agreement_law.ensures.equality

pub returns-clause-memory : goal.returns-clause-memory
returns-clause-memory c = memory_is_logged
