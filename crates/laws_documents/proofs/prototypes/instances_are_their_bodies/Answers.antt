use Rattle.laws_documents.proofs.InPlaceWhole.{instances_are_their_bodies}
use Rattle.laws_documents.proofs.prototypes.instances_are_their_bodies.Goals as goal

pub returns : goal.returns
returns c = instances_are_their_bodies
