use Rattle.laws_documents.proofs.Heads.{helpers_are_of_instances}
use Rattle.laws_documents.proofs.written.helpers_are_of_instances.Goals as goal

pub returns : goal.returns
returns c = helpers_are_of_instances
