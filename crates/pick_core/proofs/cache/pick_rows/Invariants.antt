use Rattle.std.proofs.Common.{◌≡◌, ◌-◌, take, length, None}
use Rattle.std.specs.List.{fold}
use Rattle.pick_core.specs.Picked.{nearer}
use Rattle.pick_core.specs.Sites.{shown_rows}
use Rattle.pick_core.proofs.cache.pick_rows.Given as goal

abbrev pub invariant-loop-at : goal.invariant-loop-at
invariant-loop-at l = l.best ≡ fold (nearer l.ray) None (shown_rows (take l.at l.rows))

abbrev pub decreases-loop-at : goal.decreases-loop-at
decreases-loop-at l = length l.rows - l.at
