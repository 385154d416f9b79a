use Rattle.laws_documents.proofs.WithHelpersWhole.{instances_are_all_nodes_of_their_bodies}
use Rattle.laws_documents.proofs.instances.instances_are_all_nodes_of_their_bodies.Goals as goal

pub returns : goal.returns
returns c = instances_are_all_nodes_of_their_bodies
