use Rattle.cascade_core.proofs.Places.{places_one}
use Rattle.cascade_core.proofs.laws.places_law.Goals as goal

pub returns : goal.returns
returns c = places_one
