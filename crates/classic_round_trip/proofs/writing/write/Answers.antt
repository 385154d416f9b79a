use Rattle.classic_round_trip.proofs.Spelled.{written, written_within}
use Rattle.classic_round_trip.proofs.writing.write.Goals as goal

pub returns-clause-again : goal.returns-clause-again
returns-clause-again c = λ text h. written text c.args.document.now h

pub returns-clause-within : goal.returns-clause-within
returns-clause-within c = λ text h size. written_within text c.args.document.now h size
