use Rattle.laws_documents.proofs.FieldsFilled.{nodes_tell_the_rest}
use Rattle.laws_documents.proofs.flat_fields.nodes_tell_the_rest.Goals as goal

pub returns : goal.returns
returns c = nodes_tell_the_rest
