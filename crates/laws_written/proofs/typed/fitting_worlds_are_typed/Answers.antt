use Rattle.laws_written.proofs.TypedFitting.{fitting_typed}
use Rattle.laws_written.proofs.typed.fitting_worlds_are_typed.Goals as goal

pub returns : goal.returns
returns c = fitting_typed
