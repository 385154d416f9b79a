use Rattle.std.proofs.Common.{◌≡◌, ◌+◌, drop, map}
use Rattle.x3d_values.specs.Tables.{row_named}
use Rattle.scene_core.specs.Shape.{declared_entry}
use Rattle.scene_core.proofs.row.declared_named.Given as goal

-- the name is none of those so far
abbrev pub invariant-loop-i : goal.invariant-loop-i
invariant-loop-i l =
    row_named l.first l.name (map declared_entry l.declared) ≡ row_named (l.first + l.i) l.name (map declared_entry (drop l.i l.declared))
