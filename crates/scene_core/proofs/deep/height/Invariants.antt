use Rattle.std.proofs.Common.{◌≡◌, take}
use Rattle.std.specs.List.{fold}
use Rattle.scene_core.specs.Deep.{raised}
use Rattle.scene_core.proofs.deep.height.Given as goal

abbrev pub invariant-loop-value : goal.invariant-loop-value
invariant-loop-value l = l.greatest ≡ fold (raised l.heights) 0 (take l.value-index l.node.values)
