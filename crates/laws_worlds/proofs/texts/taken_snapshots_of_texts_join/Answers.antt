use Rattle.laws_worlds.proofs.TextRewound.{taken_join}
use Rattle.laws_worlds.proofs.texts.taken_snapshots_of_texts_join.Goals as goal

pub returns : goal.returns
returns c = taken_join
