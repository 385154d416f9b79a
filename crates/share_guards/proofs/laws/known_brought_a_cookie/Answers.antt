use Rattle.share_guards.proofs.Strangers.{known_brought_a_cookie}
use Rattle.share_guards.proofs.laws.known_brought_a_cookie.Goals as goal

pub returns : goal.returns
returns c = known_brought_a_cookie
