use Rattle.std.proofs.Common.{◌≡◌, ◌++◌, take}
use Rattle.std.specs.List.{flat_map}
use Rattle.scene_faults.specs.Fields.{child_blames}
use Rattle.scene_faults.proofs.nodes.push_children.Given as goal

abbrev pub invariant-loop-n : goal.invariant-loop-n
invariant-loop-n l = l.out ≡ l.fn.out ++ flat_map (child_blames l.nodes) (take l.n-index l.children)
