-- proofs/laws/openings_are_in_range/Answers.antt
use Rattle.laws_written.proofs.ExistOpening.{openings_in_range}
use Rattle.laws_written.proofs.existing.openings_are_in_range.Goals as goal

pub returns : goal.returns
returns c = openings_in_range
