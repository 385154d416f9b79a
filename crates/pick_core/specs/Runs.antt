-- The boxes that a cache's tree is around.
use Rattle.std.specs.Prelude.{List, map, Option, Some, None, if◌then◌else◌}
use Rattle.pick_rules.specs.declared.bounds.Bounds.{Bounds}
use Rattle.pick_core.specs.declared.row.BoxRow.{BoxRow}

-- the box of a row, if the row is shown
abbrev pub seen : BoxRow → Option Bounds
seen r = if r.shown then Some r.bounds else None

-- the boxes of rows; None for a row that isn't shown
abbrev pub seen_in : List BoxRow → List (Option Bounds)
seen_in rows = map seen rows
