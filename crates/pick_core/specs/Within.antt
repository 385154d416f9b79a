-- The point where a box of a scene is hit is within the coordinate limit, so the limit changes no
-- hit.
use Rattle.std.specs.Prelude.{◌≡◌, ℕ, true, List, Some}
use Rattle.x3d_values.specs.declared.fields.Fields.{Fields}
use Rattle.x3d_values.specs.declared.vector.Vec3.{Vec3}
use Rattle.x3d_values.specs.Pointing.{RayView}
use Rattle.x3d_values.specs.Ranges.{coordinates_fit}
use Rattle.scene_core.specs.Scene.{SceneView}
use Rattle.pick_core.specs.Boxes.{boxes}
use Rattle.pick_core.specs.Local.{on_ray, point_along}
use Rattle.pick_core.specs.Looks.{kind_of}
use Rattle.pick_core.specs.Nearest.{IsPicked}
use Rattle.pick_core.specs.declared.hit.Hit.{Hit}
use Rattle.pick_core.specs.declared.look.Role.TheVariants.{Shape}

-- each Box has a size that a document can give
abbrev pub AreSized : SceneView → Type 0
AreSized scene = (node : ℕ) (size : Vec3) → kind_of scene node ≡ Shape (Some size)
    → coordinates_fit size ≡ true

-- the point of a hit is the point of its ray
abbrev pub HitsAreOnRays : Type 0
HitsAreOnRays = (scene : SceneView) (state : List Fields) (ray : RayView) (hit : Hit)
    → AreSized scene → IsPicked ray (boxes scene state) (Some hit)
    → point_along ray hit.n hit.m ≡ on_ray ray hit.n hit.m
