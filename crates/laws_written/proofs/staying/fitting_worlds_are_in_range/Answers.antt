use Rattle.laws_written.proofs.Ranged.{fitting_in_range}
use Rattle.laws_written.proofs.staying.fitting_worlds_are_in_range.Goals as goal

pub returns : goal.returns
returns c = fitting_in_range
