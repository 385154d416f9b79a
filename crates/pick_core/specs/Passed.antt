-- Which boxes a ray enters before the best so far, and the box around two boxes.
use Rattle.std.specs.Prelude.{Bool, true, false, Option, Some, None}
use Rattle.std.specs.Int.{int_min, int_max}
use Rattle.x3d_values.specs.declared.vector.Vec3.{Vec3}
use Rattle.x3d_values.specs.Pointing.{RayView}
use Rattle.pick_rules.specs.declared.bounds.Bounds.{Bounds}
use Rattle.pick_rules.specs.declared.bounds.Fraction.{Fraction}
use Rattle.pick_rules.specs.Entry.{entry_of, is_less}

-- a place is strictly nearer than the best so far; if there is no best, every place is nearer
abbrev pub is_before : Fraction → Option Fraction → Bool
is_before at None = true
is_before at (Some best) = is_less at best

abbrev pub enters_as : Option Fraction → Option Fraction → Bool
enters_as None best = false
enters_as (Some at) best = is_before at best

-- a ray enters a box before the best so far; false if there is no box
unfoldable pub enters_before : Option Bounds → RayView → Option Fraction → Bool
enters_before None ray best = false
enters_before (Some b) ray best = enters_as (entry_of b ray) best

-- -- the box around others

abbrev pub low_of : Vec3 → Vec3 → Vec3
low_of a b = record { x = int_min a.x b.x; y = int_min a.y b.y; z = int_min a.z b.z }

abbrev pub high_of : Vec3 → Vec3 → Vec3
high_of a b = record { x = int_max a.x b.x; y = int_max a.y b.y; z = int_max a.z b.z }

abbrev pub round_two : Bounds → Bounds → Bounds
round_two a b = record { low = low_of a.low b.low; high = high_of a.high b.high }

abbrev pub joined_as : Bounds → Option Bounds → Option Bounds
joined_as a None = Some a
joined_as a (Some b) = Some (round_two a b)

-- the box around two boxes; if there is only one box, that box
abbrev pub joined : Option Bounds → Option Bounds → Option Bounds
joined None b = b
joined (Some a) b = joined_as a b
