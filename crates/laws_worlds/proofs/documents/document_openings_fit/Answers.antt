use Rattle.laws_worlds.proofs.Openings.{all_openings_fit, all_starts_fit}
use Rattle.laws_worlds.proofs.documents.document_openings_fit.Goals as goal

pub returns-clause-world : goal.returns-clause-world
returns-clause-world c = all_openings_fit

pub returns-clause-starts : goal.returns-clause-starts
returns-clause-starts c = all_starts_fit
