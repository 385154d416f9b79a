-- The cycles of a TimeSensor, from its start on, in whole microseconds (ISO/IEC 19775-1, time
-- component; rounding and the clamped elapsed time are our choice).
use Rattle.std.specs.Prelude.{ℕ, ◌+◌, ◌-◌, ◌*◌, ◌/◌, ◌==◌, ℤ, pos, negsuc, ◌+ℤ◌, ◌-ℤ◌, ◌*ℤ◌, ◌<ℤ◌, ◌≤ℤ◌, int_lt, unsigned_abs, ◌&&◌, if◌then◌else◌}
use Rattle.std.specs.Int.{int_div_euclid, int_rem_euclid, int_min}
use Rattle.x3d_values.specs.Ranges.{max_time}

-- up to 10^18 microseconds from 0
pub record IsNear (time : ℤ) : Type 0 where
  pub early : negsuc (max_time - 1) ≤ℤ time
  pub late : time ≤ℤ pos max_time

-- a start, and the length of a cycle
pub record AreCycles (start interval : ℤ) : Type 0 where
  pub begins : IsNear start
  pub some : pos 0 <ℤ interval
  pub short : interval ≤ℤ pos max_time

-- the number of the cycle at a time, rounded down
unfoldable pub cycle_at : ℤ → ℤ → ℤ → ℤ
cycle_at start interval t = int_div_euclid (t -ℤ start) interval

-- when the cycle at a time began
unfoldable pub cycle_time : ℤ → ℤ → ℤ → ℤ
cycle_time start interval t = start +ℤ (cycle_at start interval t *ℤ interval)

-- when a cycle ends
unfoldable pub cycle_end : ℤ → ℤ → ℕ → ℤ
cycle_end start interval cycle = start +ℤ (pos (cycle + 1) *ℤ interval)

-- the part of its cycle that a time has reached, in millionths
abbrev pub part_of_cycle : ℤ → ℤ → ℤ
part_of_cycle elapsed interval =
    pos (unsigned_abs (int_rem_euclid elapsed interval) * 1000000 / unsigned_abs interval)

-- 1 at the end of a cycle
unfoldable pub fraction_at : ℤ → ℤ → ℤ → ℤ
fraction_at start interval x =
    if int_lt start x && (unsigned_abs (int_rem_euclid (x -ℤ start) interval) == 0)
    then pos 1000000
    else part_of_cycle (x -ℤ start) interval

-- at most 10^18 microseconds
unfoldable pub elapsed_at : ℤ → ℤ → ℤ
elapsed_at start x = int_min (x -ℤ start) (pos max_time)
