use Rattle.app_part.proofs.Texts.{parts_are_their_parts}
use Rattle.app_part.proofs.laws.parts_are_their_parts.Goals as goal

pub returns : goal.returns
returns c = parts_are_their_parts
