-- The point of a hit in the coordinates of a sensor (ISO/IEC 19775-1, pointing device sensor
-- component: hitPoint_changed; the rounding and the limit are our choice).
use Rattle.std.specs.Prelude.{◌≡◌, ℕ, ◌*◌, ◌<◌, ◌==◌, ℤ, pos, neg_ℤ, ◌+ℤ◌, ◌-ℤ◌, ◌*ℤ◌, int_lt, List, [], ◌∷◌, Option, Some, None, slice_get, if◌then◌else◌}
use Rattle.std.specs.Int.{int_div_euclid}
use Rattle.std.specs.List.{list_any}
use Rattle.std.specs.Option.{option_and_then}
use Rattle.x3d_values.specs.declared.fields.Fields.{Fields}
use Rattle.x3d_values.specs.declared.vector.Vec3.{Vec3}
use Rattle.x3d_values.specs.Pointing.{RayView}
use Rattle.scene_core.specs.Scene.{SceneView}
use Rattle.pick_core.specs.declared.hit.Hit.{Hit}
use Rattle.pick_core.specs.declared.look.Role.{Role}
use Rattle.pick_core.specs.declared.look.Role.TheVariants.{Group, Transform, Switch, Shape, Other}
use Rattle.pick_core.specs.declared.look.Motion.{Motion}
use Rattle.pick_core.specs.Looks.{kind_of, motion_of}
use Rattle.pick_core.specs.Motion.{clamped}
use Rattle.pick_core.specs.Sensors.{list_of, siblings_in}

-- ---- the point in the world

-- origin + n * dir / m, the quotient rounded down
abbrev pub on_axis : ℤ → ℤ → ℕ → ℕ → ℤ
on_axis origin dir n m = origin +ℤ int_div_euclid (pos n *ℤ dir) (pos m)

-- the point of a ray at n / m of its way
abbrev pub on_ray : RayView → ℕ → ℕ → Vec3
on_ray ray n m = record {
  x = on_axis ray.origin.x ray.dir.x n m;
  y = on_axis ray.origin.y ray.dir.y n m;
  z = on_axis ray.origin.z ray.dir.z n m;
}

-- like `on_axis`, clamped to the limit; the limit doesn't change where a box of a scene is hit
-- (specs/Within)
unfoldable pub reached : ℤ → ℤ → ℕ → ℕ → ℤ
reached origin dir n m = clamped (on_axis origin dir n m)

unfoldable pub point_along : RayView → ℕ → ℕ → Vec3
point_along ray n m = record {
  x = reached ray.origin.x ray.dir.x n m;
  y = reached ray.origin.y ray.dir.y n m;
  z = reached ray.origin.z ray.dir.z n m;
}

-- ---- into the coordinates inside a Transform

-- z / scale, rounded down; 0 if the scale is 0
abbrev pub quotient : ℤ → ℤ → ℤ
quotient z scale =
    if int_lt scale (pos 0)
    then int_div_euclid (neg_ℤ z) (neg_ℤ scale)
    else (if int_lt (pos 0) scale then int_div_euclid z scale else pos 0)

-- center + (at - translation - center) / scale
unfoldable pub back_along : ℤ → ℤ → ℤ → ℤ → ℤ
back_along translation scale center at =
    clamped (center +ℤ quotient ((at -ℤ translation -ℤ center) *ℤ pos 1000000) scale)

unfoldable pub moved_back : Motion → Vec3 → Vec3
moved_back m p = record {
  x = back_along m.translation.x m.scale.x m.center.x p.x;
  y = back_along m.translation.y m.scale.y m.center.y p.y;
  z = back_along m.translation.z m.scale.z m.center.z p.z;
}

abbrev pub entered_by : Role → Option Fields → Vec3 → Vec3
entered_by Transform own p = moved_back (motion_of own) p
entered_by Group own p = p
entered_by Switch own p = p
entered_by (Shape size) own p = p
entered_by Other own p = p

-- a point around a node, in the coordinates inside it
unfoldable pub entered : SceneView → List Fields → ℕ → Vec3 → Vec3
entered scene state node p = entered_by (kind_of scene node) (slice_get state node) p

-- ---- down to the sensor

abbrev pub or_own : Option Vec3 → Option Vec3 → Option Vec3
or_own None own = own
or_own (Some p) own = Some p

-- a point in the coordinates of the lowest list along a path that holds the sensor, from a list on
unfoldable pub local_along : SceneView → List Fields → ℕ → Option ℕ → List ℕ → Vec3 → Option Vec3
local_along scene state sensor owner [] at = None
local_along scene state sensor owner (p ∷ ps) at =
    or_own
    (option_and_then (λ child.
    local_along scene state sensor (Some child) ps (entered scene state child at))
    (slice_get (list_of scene owner) p))
    (if list_any (λ n. n == sensor) (siblings_in scene owner) then Some at else None)

abbrev pub or_world : Option Vec3 → Vec3 → Vec3
or_world None world = world
or_world (Some p) world = p

-- the point of a hit in the coordinates of a sensor; no sensor is in two lists that a hit concerns
unfoldable pub local_of : SceneView → List Fields → Hit → RayView → ℕ → Vec3
local_of scene state hit ray sensor =
    or_world (local_along scene state sensor None hit.path (point_along ray hit.n hit.m))
    (point_along ray hit.n hit.m)

-- the point depends only on the path and the value of the fraction
abbrev pub OneLocal : Type 0
OneLocal = (scene : SceneView) (state : List Fields) (ray : RayView) (sensor : ℕ) (h k : Hit)
    → 0 < h.m → 0 < k.m → h.path ≡ k.path → h.n * k.m ≡ k.n * h.m
    → local_of scene state h ray sensor ≡ local_of scene state k ray sensor
