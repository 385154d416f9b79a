-- Which viewers a host counts: those that it has heard of, and not given up. Times are milliseconds
-- that the rests of its port took since it began.
use Rattle.std.specs.Prelude.{◌≡◌, ℕ, ◌+◌, ◌-◌, ◌^◌, ◌<◌, ◌==◌, ◌||◌, Bool, List, [], ◌∷◌, get_or, length}
use Rattle.std.specs.Prelude.{if◌then◌else◌, max, min, nat_le, nat_lt, replicate, Option, None}
use Rattle.x3d_values.specs.Ranges.{max_viewers}
use Rattle.share_turns.specs.Heard.{heard_count, lowest, nobody}
use Rattle.share_turns.specs.declared.attendance.Attendance.{Attendance}

-- a viewer is given up once it was silent for ten seconds
abbrev pub silent_after : ℕ
silent_after = 10000

-- a host waits thirty seconds for viewers that it hasn't heard of
abbrev pub grace : ℕ
grace = 30000

-- a host begins at time 0, and no viewer was heard of
abbrev pub none_heard : Attendance
none_heard = record { heard = nobody; lasts = replicate max_viewers 0; time = 0 }

-- ---- what is heard

-- when a viewer was last heard, after a turn in which it asked from number `next`, or didn't ask
abbrev pub last_heard : (now next last : ℕ) → ℕ
last_heard now next last = if next == 0 then last else now

-- after a turn in which `came` was heard: each viewer's highest number stays, and each that asked
-- was last heard now
pub record IsNoted (came : List ℕ) (old new : Attendance) : Type 0 where
  pub time : new.time ≡ old.time
  pub places : length new.heard ≡ max_viewers
  pub others : length new.lasts ≡ max_viewers
  pub numbers : (who : ℕ) → who < max_viewers
      → get_or new.heard who 0 ≡ max (get_or old.heard who 0) (get_or came who 0)
  pub times : (who : ℕ) → who < max_viewers
      → get_or new.lasts who 0 ≡ last_heard old.time (get_or came who 0) (get_or old.lasts who 0)

-- some time passes, up to 2^64 - 1 in all
abbrev pub later : (millis : ℕ) → Attendance → Attendance
later millis a = record a { time = min (a.time + millis) (2 ^ 64 - 1) }

-- ---- who is counted

-- the number of a viewer that was last heard at `last`; 0, as if it had never asked, once it was
-- silent for too long
abbrev pub counted_number : (now last next : ℕ) → ℕ
counted_number now last next = if nat_lt (now - last) silent_after then next else 0

abbrev pub counted_numbers : (now : ℕ) → (lasts nexts : List ℕ) → List ℕ
counted_numbers now [] nexts = []
counted_numbers now (last ∷ lasts) [] = []
counted_numbers now (last ∷ lasts) (next ∷ nexts) =
    counted_number now last next ∷ counted_numbers now lasts nexts

-- the lowest number that a viewer which is counted has asked from
abbrev pub lowest_counted : Attendance → Option ℕ
lowest_counted a = lowest (counted_numbers a.time a.lasts a.heard)

-- ---- when inputs are dropped

-- all of the host's viewers were heard of, or it has waited for them
abbrev pub is_open : (viewers : ℕ) → Attendance → Bool
is_open viewers a = nat_le grace a.time || nat_le viewers (heard_count a.heard)

-- all viewers that are counted have asked past the inputs below it, and these may be dropped
abbrev pub lowest_dropped : (viewers : ℕ) → Attendance → Option ℕ
lowest_dropped viewers a = if is_open viewers a then lowest_counted a else None
