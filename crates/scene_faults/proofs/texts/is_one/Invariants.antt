use Rattle.std.proofs.Common.{◌≡◌, drop}
use Rattle.scene_faults.specs.Texts.{is_one, names_of}
use Rattle.scene_faults.proofs.texts.is_one.Given as goal

-- those that are left decide
abbrev pub invariant-loop-declaration : goal.invariant-loop-declaration
invariant-loop-declaration l =
    is_one l.name (names_of l.interface) ≡ is_one l.name (names_of (drop l.declaration-index l.interface))
