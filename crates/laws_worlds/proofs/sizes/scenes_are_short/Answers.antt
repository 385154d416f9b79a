use Rattle.laws_worlds.proofs.Scenes.{scenes_short}
use Rattle.laws_worlds.proofs.sizes.scenes_are_short.Goals as goal

pub returns : goal.returns
returns c = scenes_short
