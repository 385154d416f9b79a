use Rattle.share_cookies.proofs.Texts.{texts_tell}
use Rattle.share_cookies.proofs.laws.texts_tell_places_apart.Goals as goal

pub returns : goal.returns
returns c = texts_tell
