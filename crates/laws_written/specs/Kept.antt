-- What the nodes of a world keep can be written (the ranges are our choice).
use Rattle.std.specs.Prelude.{List}
use Rattle.scene_core.specs.Shape.{Shape}
use Rattle.cascade_world.specs.declared.world.WorldData.{WorldData}
use Rattle.laws_worlds.specs.Fits.{WorldFits}
use Rattle.laws_written.specs.Writable.{AreKeepable}

-- each value that is kept in a world that fits is sound and contains no nodes
abbrev pub FittingAreKeepable : Type 0
FittingAreKeepable =
    (shapes : List Shape) (w : WorldData) → WorldFits shapes w → AreKeepable w.fields
