use Rattle.laws_documents.proofs.GivenDefaults.{defaults_may_be_given}
use Rattle.laws_documents.proofs.instances.defaults_may_be_given.Goals as goal

pub returns : goal.returns
returns c = defaults_may_be_given
