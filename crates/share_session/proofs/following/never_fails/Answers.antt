use Rattle.share_session.proofs.FollowLaws.{never_fails}
use Rattle.share_session.proofs.following.never_fails.Goals as goal

pub returns : goal.returns
returns c = never_fails
