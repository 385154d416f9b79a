use Rattle.laws_written.proofs.LimitsScenes.{all_flat_or_large}
use Rattle.laws_written.proofs.limits.written_scenes_are_flat.Goals as goal

pub returns : goal.returns
returns c = all_flat_or_large c.sound_documents_are_flat.ensures c.written_nodes_are_read.ensures
