use Rattle.laws_written.proofs.Keepable.{fitting_are_keepable}
use Rattle.laws_written.proofs.worlds.fitting_worlds_are_kept.Goals as goal

pub returns : goal.returns
returns c = fitting_are_keepable
