-- Boxes in the coordinates around Transforms (ISO/IEC 19775-1, grouping component: Transform; the
-- rounding and the limit are our choice).
use Rattle.std.specs.Prelude.{ℕ, ℤ, pos, neg_ℤ, ◌+ℤ◌, ◌-ℤ◌, ◌*ℤ◌, List, Option, slice_get}
use Rattle.std.specs.Int.{int_min, int_max, int_div_euclid}
pub use Rattle.x3d_values.specs.Ranges.{clamped}
use Rattle.x3d_values.specs.declared.fields.Fields.{Fields}
use Rattle.x3d_values.specs.declared.vector.Vec3.{Vec3}
use Rattle.scene_core.specs.Scene.{SceneView}
use Rattle.pick_rules.specs.declared.bounds.Bounds.{Bounds}
use Rattle.pick_core.specs.declared.look.Role.{Role}
use Rattle.pick_core.specs.declared.look.Role.TheVariants.{Group, Transform, Switch, Shape, Other}
use Rattle.pick_core.specs.declared.look.Motion.{Motion}
use Rattle.pick_core.specs.Looks.{kind_of, motion_of}

-- translation + center + scale * (at - center), the product rounded down to millionths
abbrev pub along_of : ℤ → ℤ → ℤ → ℤ → ℤ
along_of translation scale center at =
    clamped (translation +ℤ center +ℤ int_div_euclid (scale *ℤ (at -ℤ center)) (pos 1000000))

abbrev pub moved : Motion → Vec3 → Vec3
moved m p = record {
  x = along_of m.translation.x m.scale.x m.center.x p.x;
  y = along_of m.translation.y m.scale.y m.center.y p.y;
  z = along_of m.translation.z m.scale.z m.center.z p.z;
}

-- the box between two opposite corners, in any order
abbrev pub sides_along : Vec3 → Vec3 → Bounds
sides_along a b = record {
  low = record { x = int_min a.x b.x; y = int_min a.y b.y; z = int_min a.z b.z };
  high = record { x = int_max a.x b.x; y = int_max a.y b.y; z = int_max a.z b.z };
}

-- the box between the moved corners
unfoldable pub moved_box : Motion → Bounds → Bounds
moved_box m b = sides_along (moved m b.low) (moved m b.high)

abbrev pub moved_by : Role → Option Fields → Bounds → Bounds
moved_by Transform own b = moved_box (motion_of own) b
moved_by Group own b = b
moved_by Switch own b = b
moved_by (Shape size) own b = b
moved_by Other own b = b

-- a box inside a node, in the coordinates around it
unfoldable pub moved_at : SceneView → List Fields → ℕ → Bounds → Bounds
moved_at scene state node b = moved_by (kind_of scene node) (slice_get state node) b

-- half of z, rounded down
abbrev pub half : ℤ → ℤ
half z = int_div_euclid z (pos 2)

-- a Box of a size, around the origin
unfoldable pub box_of : Vec3 → Bounds
box_of size = record {
  low = record { x = neg_ℤ (half size.x); y = neg_ℤ (half size.y); z = neg_ℤ (half size.z) };
  high = record { x = half size.x; y = half size.y; z = half size.z };
}
