use Rattle.scene_core.proofs.Heights.{Tell}
use Rattle.scene_core.proofs.deep.heights_of.Given as goal

abbrev pub invariant-loop-level : goal.invariant-loop-level
invariant-loop-level l = Tell l.nodes l.heights.items l._level
