use Rattle.share_cookies.proofs.Ages.{secrets_change}
use Rattle.share_cookies.proofs.laws.secrets_change.Goals as goal

pub returns : goal.returns
returns c = secrets_change
