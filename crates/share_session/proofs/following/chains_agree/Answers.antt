use Rattle.share_session.proofs.FollowLaws.{chains_agree}
use Rattle.share_session.proofs.following.chains_agree.Goals as goal

pub returns : goal.returns
returns c = chains_agree
