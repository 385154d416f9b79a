use Rattle.std.proofs.Common.{◌≡◌, ◌++◌, take}
use Rattle.std.specs.List.{flat_map}
use Rattle.scene_faults.specs.Fields.{inner_blames}
use Rattle.scene_faults.proofs.values.push_all_inner.Given as goal

abbrev pub invariant-loop-n : goal.invariant-loop-n
invariant-loop-n l = l.out ≡ l.fn.out ++ flat_map (inner_blames l.nodes l.kind l.line) (take l.n-index l.inner)
