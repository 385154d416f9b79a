-- Where a ray meets the plane of a drag (ISO/IEC 19775-1, pointing device sensor component:
-- PlaneSensor; the rounding and the limit are our choice).
use Rattle.std.specs.Prelude.{ℕ, ℤ, pos, ◌+ℤ◌, ◌-ℤ◌, ◌*ℤ◌, int_le, int_lt, Bool, false, List, Option, Some, None, if◌then◌else◌}
use Rattle.std.specs.Option.{option_map}
use Rattle.x3d_values.specs.declared.fields.Fields.{Fields}
use Rattle.x3d_values.specs.declared.vector.Vec3.{Vec3}
use Rattle.x3d_values.specs.Pointing.{RayView}
use Rattle.scene_core.specs.Scene.{SceneView}
use Rattle.pick_core.specs.Local.{quotient}
use Rattle.pick_core.specs.Motion.{clamped}
use Rattle.pick_core.specs.Paths.{inward, nodes_along, outward}

-- a ray that begins at height `from`, with direction `along` along z, reaches another height:
-- (height - from) / along exists and isn't below 0
abbrev pub comes_to : ℤ → ℤ → ℤ → Bool
comes_to from along height =
    if int_lt along (pos 0) then int_le height from
    else (if int_lt (pos 0) along then int_le from height else false)

-- origin + dir * (height - from) / along, the quotient rounded down
unfoldable pub met_on : ℤ → ℤ → ℤ → ℤ → ℤ → ℤ
met_on origin dir from along height =
    clamped (origin +ℤ quotient (dir *ℤ (height -ℤ from)) along)

abbrev pub met_at : Vec3 → Vec3 → ℤ → Vec3
met_at origin dir height = record {
  x = met_on origin.x dir.x origin.z dir.z height;
  y = met_on origin.y dir.y origin.z dir.z height;
  z = height;
}

-- the point where a ray reaches a height; None if the ray runs parallel to the plane there or away
-- from it
unfoldable pub met : RayView → ℤ → Option Vec3
met ray height =
    if comes_to ray.origin.z ray.dir.z height then Some (met_at ray.origin ray.dir height) else None

-- the point p moved along z to the height of `start`
abbrev pub at_height : Vec3 → Vec3 → Vec3
at_height start p = record { x = p.x; y = p.y; z = start.z }

-- where a ray meets the plane through `start` perpendicular to z, in the coordinates inside these
-- nodes
abbrev pub tracked : SceneView → List Fields → List ℕ → Vec3 → RayView → Option Vec3
tracked scene state nodes start ray =
    option_map (λ p. at_height start (inward scene state nodes p))
    (met ray (outward scene state nodes start).z)

-- like `tracked`, in the coordinates of the list at the end of a path
unfoldable pub track_of : SceneView → List Fields → List ℕ → Vec3 → RayView → Option Vec3
track_of scene state path start ray =
    tracked scene state (nodes_along scene None path) start ray
