use Rattle.laws_written.proofs.Opening.{document_sound}
use Rattle.laws_written.proofs.again.document_scenes_are_sound.Goals as goal

pub returns : goal.returns
returns c = document_sound
