use Rattle.laws_worlds.proofs.TextRewound.{taken_rewind}
use Rattle.laws_worlds.proofs.texts.taken_snapshots_of_texts_rewind.Goals as goal

pub returns : goal.returns
returns c = taken_rewind
