use Rattle.std.proofs.Common.{◌≡◌, ◌+◌, ◌*◌, ◌++◌, map, take}
use Rattle.pick_core.specs.Sites.{row_at, site_under, sites_in}
use Rattle.pick_core.specs.Spread.{spread}
use Rattle.pick_core.proofs.gather.+gathering.Given as goal

abbrev pub decreases-gather : goal.decreases-gather
decreases-gather l = 3 * l.depth

abbrev pub decreases-gather_place : goal.decreases-gather_place
decreases-gather_place l = 3 * l.depth + 1

abbrev pub decreases-gather_all : goal.decreases-gather_all
decreases-gather_all l = 3 * l.depth + 2

abbrev pub invariant-gather_all-loop-position : goal.invariant-gather_all-loop-position
invariant-gather_all-loop-position l = record {
  trail : l.walk.trail.items ≡ l.fn.walk.trail.items;
  rows : l.walk.rows.items ≡ l.fn.walk.rows.items ++ map (row_at l.scene l.state l.fn.walk.trail.items) (spread site_under (sites_in l.scene l.depth) 0 (take l.position l.nodes));
}
