use Rattle.laws_documents.proofs.SpelledFlats.{flats_short, texts_short}
use Rattle.laws_documents.proofs.spelled.flats_are_short.Goals as goal

pub returns-clause-values : goal.returns-clause-values
returns-clause-values c = flats_short

pub returns-clause-texts : goal.returns-clause-texts
returns-clause-texts c = texts_short
