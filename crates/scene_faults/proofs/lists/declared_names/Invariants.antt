use Rattle.std.proofs.Common.{◌≡◌, map, take}
use Rattle.scene_faults.specs.Texts.{declared_name}
use Rattle.scene_faults.proofs.lists.declared_names.Given as goal

abbrev pub invariant-loop-declaration : goal.invariant-loop-declaration
invariant-loop-declaration l = l.named ≡ map declared_name (take l.declaration-index l.interface)
