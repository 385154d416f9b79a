use Rattle.share_runs.proofs.Stays.{bound_stay}
use Rattle.share_runs.proofs.arrival.bound_viewers_stay.Goals as goal

pub returns : goal.returns
returns c = bound_stay
