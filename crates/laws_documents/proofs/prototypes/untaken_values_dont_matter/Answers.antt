use Rattle.laws_documents.proofs.UntakenWhole.{untaken_values_dont_matter}
use Rattle.laws_documents.proofs.prototypes.untaken_values_dont_matter.Goals as goal

pub returns : goal.returns
returns c = untaken_values_dont_matter
