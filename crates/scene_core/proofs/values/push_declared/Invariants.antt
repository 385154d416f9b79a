use Rattle.std.proofs.Common.{◌≡◌, ◌+◌, drop}
use Rattle.scene_core.specs.Typed.{declared_from}
use Rattle.scene_core.proofs.values.push_declared.Given as goal

-- those that are left decide
abbrev pub invariant-loop-i : goal.invariant-loop-i
invariant-loop-i l =
    declared_from l.known.nodes.now l.known.numbers.now l.fields l.number l.interface l.fn.made
    ≡ declared_from l.known.nodes.now l.known.numbers.now l.fields (l.number + l.i) (drop l.i l.interface) l.made
