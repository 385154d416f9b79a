use Rattle.laws_written.proofs.WorldsWhole.{running_stay, worlds_stay}
use Rattle.laws_written.proofs.staying.written_worlds_stay.Goals as goal

pub returns-clause-reached : goal.returns-clause-reached
returns-clause-reached c = worlds_stay c.written_scenes_stay.ensures

pub returns-clause-running : goal.returns-clause-running
returns-clause-running c = running_stay c.written_scenes_stay.ensures
