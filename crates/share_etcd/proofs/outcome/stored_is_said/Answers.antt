use Rattle.share_etcd.proofs.AnswerLaws.{stored_said}
use Rattle.share_etcd.proofs.outcome.stored_is_said.Goals as goal

pub returns : goal.returns
returns c = stored_said
