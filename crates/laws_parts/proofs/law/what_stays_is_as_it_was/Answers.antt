use Rattle.laws_parts.proofs.Stays.{what_stays}
use Rattle.laws_parts.proofs.law.what_stays_is_as_it_was.Goals as goal

pub returns : goal.returns
returns c = what_stays
