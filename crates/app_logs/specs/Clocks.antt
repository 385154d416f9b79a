-- Which clocks of a job are left after the entries of a log, and the clocks that a host makes once
-- these are over (our choice).
use Rattle.std.specs.Prelude.{◌+◌, ◌-◌, ◌*◌, ◌^◌, ◌&&◌, ℕ, ℤ, pos, ◌+ℤ◌, int_lt, nat_lt, nat_le, min, List, length, map, slice_get}
use Rattle.std.specs.Prelude.{Option, Some, None, if◌then◌else◌}
use Rattle.std.specs.List.{filter}
use Rattle.std.specs.Option.{option_map_or}
use Rattle.x3d_values.specs.Stamp.{StampedView}
use Rattle.snapshot_codec.specs.Trace.{is_moment}
use Rattle.share_entries.specs.Entry.{EntryView}

-- the time of the last entry, or 0
abbrev pub last_of : List EntryView → ℤ
last_of entries = option_map_or (λ e. e.time) (slice_get entries (length entries - 1)) (pos 0)

-- the times of inputs that are later than this one, in order
abbrev pub times_after : (last : ℤ) → List StampedView → List ℤ
times_after last inputs = filter (int_lt last) (map (λ input. input.time) inputs)

-- ---- the clocks of a beat, one at each interval

-- the later of a time and of 1 microsecond after the last input
abbrev pub later_of : (time last : ℤ) → ℤ
later_of time last = if int_lt last time then time else last +ℤ pos 1

-- The time of a clock of a host that began after an input at time `base`, and whose port has rested
-- for this many milliseconds since: the two together, but later than the last input. There is none
-- after some 31,000 years.
abbrev pub beat_time : (base last : ℤ) → (millis : ℕ) → Option ℤ
beat_time base last millis =
    if nat_le millis (10 ^ 15) && (is_moment base && is_moment last)
    then Some (later_of (base +ℤ pos (1000 * millis)) last)
    else None

-- the clock, if one is due
abbrev pub beat_clock : (every : Option ℕ) → (base last : ℤ) → (due millis : ℕ) → Option ℤ
beat_clock None base last due millis = None
beat_clock (Some every) base last due millis =
    if nat_le due millis then beat_time base last millis else None

-- the clock of a turn: the one of the job, or if there is none, that of the beat
abbrev pub clock_for : (job own : Option ℤ) → Option ℤ
clock_for (Some time) own = Some time
clock_for None own = own

-- the first is due after one interval
abbrev pub first_due : (every : Option ℕ) → ℕ
first_due None = 0
first_due (Some every) = every

-- after a turn with this clock of the job: one interval after a clock of the beat was due
abbrev pub due_after : (job : Option ℤ) → (every : Option ℕ) → (due millis : ℕ) → ℕ
due_after (Some time) every due millis = due
due_after None None due millis = due
due_after None (Some every) due millis =
    if nat_lt millis due then due else min (millis + every) (2 ^ 64 - 1)
