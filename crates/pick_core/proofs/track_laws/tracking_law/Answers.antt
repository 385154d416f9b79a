use Rattle.std.proofs.Common.{rules}
use Rattle.pick_core.specs.Local.{back_along, moved_back}
use Rattle.pick_core.specs.Track.{met, met_on}
use Rattle.pick_core.proofs.track_laws.tracking_law.Goals as goal

pub returns : goal.returns
unfolding met_on met back_along moved_back
returns c = search rules
