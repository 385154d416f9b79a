use Rattle.share_guards.proofs.Strangers.{strangers_get_no_more}
use Rattle.share_guards.proofs.laws.strangers_get_no_more.Goals as goal

pub returns : goal.returns
returns c = strangers_get_no_more
