-- Worlds that fit have snapshots.
use Rattle.std.specs.Prelude.{◌^◌, ◌<◌, length}
use Rattle.scene_core.specs.Scene.{SceneView}
use Rattle.cascade_core.specs.Course.{Scripted}
use Rattle.snapshot_core.specs.Loading.{HasSnapshot}
use Rattle.laws_worlds.specs.Fits.{ScriptedFits}

-- a snapshot counts the events that were sent in 64 bits
abbrev pub FittingHaveSnapshots : Type 0
FittingHaveSnapshots =
    (scene : SceneView) (w : Scripted)
    → length w.world.trace < 2 ^ 64 → ScriptedFits scene w → HasSnapshot scene w
