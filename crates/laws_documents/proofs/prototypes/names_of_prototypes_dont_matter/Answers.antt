use Rattle.laws_documents.proofs.RenamedParts.{names_of_prototypes_dont_matter}
use Rattle.laws_documents.proofs.prototypes.names_of_prototypes_dont_matter.Goals as goal

pub returns : goal.returns
returns c = names_of_prototypes_dont_matter
