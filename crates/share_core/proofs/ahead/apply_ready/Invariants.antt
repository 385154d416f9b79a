use Rattle.std.proofs.Common.{◌≡◌, ◌≤◌, ◌+◌, ℕ, List, [], false}
use Rattle.cascade_core.specs.Held.{applied_of, is_spoiled}
use Rattle.share_law.specs.Cascade.{cascade}
use Rattle.share_law.specs.Viewer.{drain}
use Rattle.share_core.specs.Ahead.{InPlace}
use Rattle.share_core.proofs.Drains.{Goes}
use Rattle.share_core.proofs.Nexts.{world_in}
use Rattle.share_core.proofs.ahead.apply_ready.Given as goal
use Rattle.x3d_values.specs.Ranges.{max_inputs}

abbrev pub invariant-loop-count : goal.invariant-loop-count
invariant-loop-count g l =
    (l.stage.scene ≡ l.fn.stage.scene)
    × (l.stage.routes ≡ l.fn.stage.routes)
    × (is_spoiled l.stage.held ≡ false)
    × (applied_of l.stage.held ≤ max_inputs)
    × InPlace (applied_of l.stage.held + 1) l.window
    × ((mark : List ℕ) → Goes (cascade mark l.fn.stage.scene l.fn.stage.routes) (world_in l.fn.stage.scene l.fn.stage.held) l.fn.window (world_in l.fn.stage.scene l.stage.held) l.window l.count)

abbrev pub decreases-loop-count : goal.decreases-loop-count
decreases-loop-count g l = (drain (cascade [] l.fn.stage.scene l.fn.stage.routes) (world_in l.fn.stage.scene l.stage.held) l.window).count
