use Rattle.scene_core.proofs.Counts.{Count}
use Rattle.scene_core.proofs.places.counts_of.Given as goal

abbrev pub invariant-loop-level : goal.invariant-loop-level
invariant-loop-level l = Count l.nodes l.counts.items l._level
