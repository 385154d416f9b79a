use Rattle.laws_written.proofs.Scenes.{scenes_are_writable}
use Rattle.laws_written.proofs.text_laws.scenes_are_writable.Goals as goal

pub returns : goal.returns
returns c = scenes_are_writable
