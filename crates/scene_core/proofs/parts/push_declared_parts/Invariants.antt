use Rattle.std.proofs.Common.{◌≡◌, ◌+◌, ◌++◌, drop, map}
use Rattle.scene_core.specs.Parts.{parts_from}
use Rattle.scene_core.specs.Shape.{declaration_entry}
use Rattle.scene_core.proofs.parts.push_declared_parts.Given as goal

-- the nodes so far, with the rest behind them, are all
abbrev pub invariant-loop-i : goal.invariant-loop-i
invariant-loop-i l =
    l.out.items ++ parts_from l.fields (l.number + l.i) (map declaration_entry (drop l.i l.interface))
    ≡ l.initial.out.items ++ parts_from l.fields l.number (map declaration_entry l.interface)
