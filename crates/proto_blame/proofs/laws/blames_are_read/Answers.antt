use Rattle.proto_blame.proofs.Digits.{blame_is_read}
use Rattle.proto_blame.proofs.laws.blames_are_read.Goals as goal

pub returns : goal.returns
returns c = blame_is_read
