use Rattle.std.proofs.Common.{◌≡◌, drop}
use Rattle.scene_faults.specs.Ends.{declared}
use Rattle.scene_faults.proofs.ends.declared.Given as goal

-- those that are left decide
abbrev pub invariant-loop-declaration : goal.invariant-loop-declaration
invariant-loop-declaration l = declared l.name l.interface ≡ declared l.name (drop l.declaration-index l.interface)
