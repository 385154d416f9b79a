use Rattle.laws_documents.proofs.DefWhole.{def_names_dont_matter}
use Rattle.laws_documents.proofs.prototypes.def_names_dont_matter.Goals as goal

pub returns : goal.returns
returns c = def_names_dont_matter
