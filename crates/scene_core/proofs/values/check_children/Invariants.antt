use Rattle.std.proofs.Common.{◌≡◌, drop}
use Rattle.scene_core.specs.Typed.{all_children}
use Rattle.scene_core.proofs.values.check_children.Given as goal

-- those that are left decide
abbrev pub invariant-loop-n : goal.invariant-loop-n
invariant-loop-n l = all_children l.nodes l.children ≡ all_children l.nodes (drop l.n-index l.children)
