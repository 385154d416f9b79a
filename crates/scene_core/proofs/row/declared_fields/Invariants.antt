use Rattle.std.proofs.Common.{◌≡◌, map, take}
use Rattle.scene_core.specs.Shape.{declared_by}
use Rattle.scene_core.proofs.row.declared_fields.Given as goal

abbrev pub invariant-loop-declaration : goal.invariant-loop-declaration
invariant-loop-declaration l = l.fields ≡ map declared_by (take l.declaration-index l.interface)
