use Rattle.laws_worlds.proofs.Rewound.{taken_rewind}
use Rattle.laws_worlds.proofs.rewinding.taken_snapshots_rewind.Goals as goal

pub returns : goal.returns
returns c = taken_rewind
