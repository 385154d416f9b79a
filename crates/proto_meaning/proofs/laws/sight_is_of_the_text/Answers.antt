use Rattle.proto_meaning.proofs.SightWhole.{sight_is_of_the_text}
use Rattle.proto_meaning.proofs.laws.sight_is_of_the_text.Goals as goal

pub returns : goal.returns
returns c = sight_is_of_the_text
