use Rattle.scene_faults.proofs.Blamed.{children_are_blamed}
use Rattle.scene_faults.proofs.laws.children_are_blamed.Goals as goal

pub returns : goal.returns
returns c = children_are_blamed
