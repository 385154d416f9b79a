use Rattle.proto_meaning.proofs.LimitLaws.{limits_stay_passed}
use Rattle.proto_meaning.proofs.laws.limits_stay_passed.Goals as goal

pub returns : goal.returns
returns c = limits_stay_passed
