use Rattle.proto_resolver.proofs.Numbers.{resolved_texts_stand_for_the_same}
use Rattle.proto_resolver.proofs.laws.resolved_texts_stand_for_the_same.Goals as goal

pub returns : goal.returns
returns c = resolved_texts_stand_for_the_same
