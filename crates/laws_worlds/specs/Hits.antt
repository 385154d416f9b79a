-- In the scene of a document a hit lies on its ray: each Box has a size that a document can give.
use Rattle.std.specs.Prelude.{◌≡◌, List, Ok, Some}
use Rattle.x3d_values.specs.declared.fields.Fields.{Fields}
use Rattle.x3d_values.specs.Pointing.{RayView}
use Rattle.proto_flat.specs.declared.flat.Flat.{Flat}
use Rattle.scene_core.specs.Building.{scene_of}
use Rattle.scene_core.specs.Scene.{SceneView}
use Rattle.pick_core.specs.Boxes.{boxes}
use Rattle.pick_core.specs.Local.{on_ray, point_along}
use Rattle.pick_core.specs.Nearest.{IsPicked}
use Rattle.pick_core.specs.Within.{AreSized}
use Rattle.pick_core.specs.declared.hit.Hit.{Hit}

-- the size of each Box is in the range of its field
abbrev pub DocumentsAreSized : Type 0
DocumentsAreSized =
    (flat : Flat) (scene : SceneView) → scene_of flat ≡ Ok scene → AreSized scene

-- the point of a hit is on its ray: the limit of size changes no point
abbrev pub DocumentHitsAreOnRays : Type 0
DocumentHitsAreOnRays =
    (flat : Flat) (scene : SceneView) (state : List Fields) (ray : RayView) (hit : Hit)
    → scene_of flat ≡ Ok scene → IsPicked ray (boxes scene state) (Some hit)
    → point_along ray hit.n hit.m ≡ on_ray ray hit.n hit.m
