use Rattle.laws_documents.proofs.SoundWhole.{sound_documents_are_flat}
use Rattle.laws_documents.proofs.plain_faults.sound_documents_are_flat.Goals as goal

pub returns : goal.returns
returns c = sound_documents_are_flat
