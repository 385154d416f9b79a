-- The quantities that numerals express, and their ranges (ISO/IEC 19775-1, field types; the ranges
-- are our choice).
use Rattle.std.specs.Prelude.{◌-◌, ◌^◌, ◌%◌, ℤ, pos, negsuc, Bool, ◌&&◌, ◌==◌, nat_le, int_le, int_div, unsigned_abs}
use Rattle.x3d_values.specs.Ranges.{max_coordinate, max_time}
use Rattle.scene_values.specs.declared.quantity.Quantity.{Quantity}
use Rattle.scene_values.specs.declared.quantity.Quantity.TheVariants.{Number, Time, Integer}

-- the whole number that equals z millionths
abbrev pub whole : ℤ → ℤ
whole z = int_div z (pos (10 ^ 6))

-- z is a whole number of 32 bits, in millionths
abbrev pub is_integer : ℤ → Bool
is_integer z =
    unsigned_abs z % 10 ^ 6 == 0
    && (int_le (negsuc (2 ^ 31 - 1)) (whole z) && int_le (whole z) (pos (2 ^ 31 - 1)))

-- the absolute value of a number is at most 10^15 millionths, that of a time 10^18 microseconds
abbrev pub fits : Quantity → ℤ → Bool
fits Number z = nat_le (unsigned_abs z) max_coordinate
fits Time z = nat_le (unsigned_abs z) max_time
fits Integer z = is_integer z
