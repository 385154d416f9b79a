use Rattle.laws_documents.proofs.WithFieldsWhole.{instances_with_fields_are_their_bodies}
use Rattle.laws_documents.proofs.instances.instances_with_fields_are_their_bodies.Goals as goal

pub returns : goal.returns
returns c = instances_with_fields_are_their_bodies
