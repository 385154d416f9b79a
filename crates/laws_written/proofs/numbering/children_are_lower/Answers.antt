use Rattle.laws_written.proofs.Lower.{children_lower}
use Rattle.laws_written.proofs.numbering.children_are_lower.Goals as goal

pub returns : goal.returns
returns c = children_lower
