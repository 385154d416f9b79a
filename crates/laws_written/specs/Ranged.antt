-- What the nodes of a world keep is in the range of its field (ISO/IEC 19775-1, field semantics).
use Rattle.scene_core.specs.Scene.{SceneView, shapes_of}
use Rattle.cascade_world.specs.declared.world.WorldData.{WorldData}
use Rattle.laws_worlds.specs.Fits.{WorldFits}
use Rattle.laws_written.specs.Exist.{AreInRange}

-- this holds in a world that fits
abbrev pub FittingAreInRange : Type 0
FittingAreInRange =
    (scene : SceneView) (w : WorldData) → WorldFits (shapes_of scene) w
    → AreInRange scene w.fields
