-- What a ray hits first in a state of a scene.
use Rattle.std.specs.Prelude.{List, Option}
use Rattle.pick_core.specs.Boxes.{boxes}
use Rattle.pick_core.specs.Picked.{picked}
use Rattle.pick_core.specs.declared.hit.Hit.{Hit}
use Rattle.scene_core.specs.Scene.{SceneView}
use Rattle.x3d_values.specs.Pointing.{RayView}
use Rattle.x3d_values.specs.declared.fields.Fields.{Fields}

-- the box that a ray hits first
abbrev pub hit_by : SceneView → List Fields → RayView → Option Hit
hit_by scene state ray = picked ray (boxes scene state)
