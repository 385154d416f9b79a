use Rattle.laws_calls.proofs.Begins.{agree, begins, hold, stays}
use Rattle.laws_calls.proofs.law.peers_law.Goals as goal

pub returns-clause-begins : goal.returns-clause-begins
returns-clause-begins c = begins

pub returns-clause-stays : goal.returns-clause-stays
returns-clause-stays c = stays

pub returns-clause-equality : goal.returns-clause-equality
returns-clause-equality c = hold c.agreement_law.ensures.equality

pub returns-clause-two_viewers : goal.returns-clause-two_viewers
returns-clause-two_viewers c = agree c.agreement_law.ensures.two_viewers
