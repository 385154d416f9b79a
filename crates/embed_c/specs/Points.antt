-- The input of a pointer, and the kind of a script, by the numbers that C passes.
use Rattle.std.specs.Prelude.{ℕ, ℤ, Bool, ◌==◌, if◌then◌else◌, Option, Some, None}
use Rattle.x3d_values.specs.Pointing.{PointerView, RayView}
use Rattle.x3d_values.specs.Stamp.{StampedView}
use Rattle.x3d_values.specs.declared.script.Kind.{Kind}
use Rattle.x3d_values.specs.declared.script.Kind.TheVariants as kinds
use Rattle.x3d_values.specs.declared.stamped.Cause.TheVariants.{Pointer}
use Rattle.x3d_values.specs.declared.pointing.Point.{Point}
use Rattle.x3d_values.specs.declared.vector.Vec3.{Vec3}
use Rattle.embed_world.specs.Pointing.{pointer_of, ray_of, stamped}
use Rattle.embed_world.specs.declared.aim.Aim.{Aim}

abbrev pub origin_of : Aim → Vec3
origin_of aim = record { x = aim.origin_x; y = aim.origin_y; z = aim.origin_z }

abbrev pub direction_of : Aim → Vec3
direction_of aim = record { x = aim.direction_x; y = aim.direction_y; z = aim.direction_z }

-- the ray that a viewer points with
abbrev pub aimed : Aim → Option RayView
aimed aim = ray_of (origin_of aim) (direction_of aim)

abbrev pub stamped_pointer : ℕ → ℤ → Option PointerView → Option StampedView
stamped_pointer number time None = None
stamped_pointer number time (Some pointer) = stamped number time (Pointer pointer)

-- the pointer of a viewer with this ray, as the input with a number at a time
abbrev pub pointed : ℕ → ℤ → ℕ → Bool → Aim → Option StampedView
pointed number time who down aim =
    stamped_pointer number time (pointer_of who down (ray_of (origin_of aim) (direction_of aim)))

-- the kind of a script with this number
abbrev pub kind_of : ℕ → Option Kind
kind_of number =
    if number == 0 then Some kinds.Counter
    else if number == 1 then Some kinds.Gate
    else if number == 2 then Some kinds.Adder
    else if number == 3 then Some kinds.Batch
    else if number == 4 then Some kinds.Mover
    else if number == 5 then Some kinds.Meter
    else None

-- what a viewer points at, with the button down or not
abbrev pub aimed_point : Bool → Aim → Point
aimed_point down aim = record { down = down; origin = origin_of aim; dir = direction_of aim }
