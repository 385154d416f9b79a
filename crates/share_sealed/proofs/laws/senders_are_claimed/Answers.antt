use Rattle.share_sealed.proofs.Claims.{senders_are_claimed}
use Rattle.share_sealed.proofs.laws.senders_are_claimed.Goals as goal

pub returns : goal.returns
returns c = senders_are_claimed
