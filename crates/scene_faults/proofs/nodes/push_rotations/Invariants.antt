use Rattle.std.proofs.Common.{◌≡◌, ◌++◌, take}
use Rattle.std.specs.List.{flat_map}
use Rattle.scene_faults.specs.Fields.{rotation_blames}
use Rattle.scene_faults.proofs.nodes.push_rotations.Given as goal

abbrev pub invariant-loop-declaration : goal.invariant-loop-declaration
invariant-loop-declaration l = l.out ≡ l.fn.out ++ flat_map rotation_blames (take l.declaration-index l.interface)
