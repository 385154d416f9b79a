use Rattle.std.proofs.Common.{◌≡◌, ◌+◌, ◌*◌, map, take}
use Rattle.std.specs.List.{fold}
use Rattle.pick_core.specs.Boxes.{inside, under}
use Rattle.pick_core.specs.Picked.{nearer}
use Rattle.pick_core.specs.Spread.{spread}
use Rattle.pick_core.specs.Trail.{raised}
use Rattle.pick_core.proofs.walk.+walking.Given as goal

abbrev pub decreases-visit : goal.decreases-visit
decreases-visit l = 3 * l.depth

abbrev pub decreases-visit_place : goal.decreases-visit_place
decreases-visit_place l = 3 * l.depth + 1

abbrev pub decreases-visit_all : goal.decreases-visit_all
decreases-visit_all l = 3 * l.depth + 2

abbrev pub invariant-visit_all-loop-position : goal.invariant-visit_all-loop-position
invariant-visit_all-loop-position l = record {
  trail : l.walk.trail.items ≡ l.fn.walk.trail.items;
  best : l.walk.best ≡ fold (nearer l.ray) l.fn.walk.best (map (raised l.scene l.state l.fn.walk.trail.items) (spread (under l.scene l.state) (inside l.scene l.state l.depth) 0 (take l.position l.nodes)));
}
