-- When a host over a shared log reads on, and which clocks it makes (our choice). Times are
-- milliseconds that the rests of its port took.
use Rattle.std.specs.Prelude.{◌+◌, ◌-◌, ◌^◌, ◌||◌, ℕ, ℤ, int_lt, min, nat_le, nat_lt, not, List, drop}
use Rattle.std.specs.Prelude.{Bool, Option, None, Some, if◌then◌else◌}
use Rattle.std.specs.List.{find, fold}
use Rattle.share_entries.specs.Entry.{EntryView}
use Rattle.share_entries.specs.declared.entry.Source.{Source}
use Rattle.share_entries.specs.declared.entry.Source.TheVariants.{Clock, Offer}
use Rattle.app_logs.specs.declared.clocks.Beat.{Beat}
use Rattle.app_logs.specs.Clocks.{beat_clock, clock_for, due_after, first_due}
use Rattle.app_standby.specs.declared.pace.Next.{Next}
use Rattle.app_standby.specs.declared.pace.Pace.{Pace}
use Rattle.app_standby.specs.declared.plan.SharedPlan.{SharedPlan}

-- it makes clocks once it had no entry of another host for this long
abbrev pub stands_in : (silent standby : ℕ) → Bool
stands_in silent standby = nat_le standby silent

-- it reads on if the log takes no appends, each quarter of a second, and before each turn while
-- another host appends
abbrev pub must_read : (takes_appends : Bool) → (since silent : ℕ) → Bool
must_read takes_appends since silent =
    not takes_appends || nat_le 250 since || nat_lt silent 2000

-- the first clock of the job from this place on that is later than the last input
abbrev pub job_clock : List ℤ → (place : ℕ) → (last : ℤ) → Option ℤ
job_clock clocks place last = find (int_lt last) (drop place clocks)

abbrev pub place_after : (job : Option ℤ) → (place : ℕ) → ℕ
place_after (Some time) place = min (place + 1) (2 ^ 64 - 1)
place_after None place = place

-- some time passes, up to 2^64 - 1 in all
abbrev pub later : (millis time : ℕ) → ℕ
later millis time = min (time + millis) (2 ^ 64 - 1)

abbrev pub passed : (millis : ℕ) → Pace → Pace
passed millis p =
    record p {
      rested = later millis p.rested;
      since = later millis p.since;
      silent = later millis p.silent;
    }

-- ---- entries of another host

abbrev pub begun : Beat → Pace
begun beat =
    record { beat = beat; rested = 0; since = 0; silent = 0; due = first_due beat.every; place = 0 }

-- the beat goes on from a clock of another host
abbrev pub after_clock : Pace → (time : ℤ) → Pace
after_clock p time =
    record p {
      beat = record p.beat { base = time };
      rested = 0;
      due = first_due p.beat.every;
    }

abbrev pub followed_of : Pace → (time : ℤ) → Source → Pace
followed_of p time Clock = after_clock p time
followed_of p time (Offer o) = p

abbrev pub followed : Pace → EntryView → Pace
followed p e = followed_of p e.time e.source

abbrev pub heard : List EntryView → Pace → Pace
heard entries p = fold followed (record p { silent = 0 }) entries

-- ---- the clock of a turn

-- this clock of the job, or if there is none, one of the beat
abbrev pub made_of : (job : Option ℤ) → (last : ℤ) → Pace → Next
made_of job last p =
    record {
      clock = clock_for job (beat_clock p.beat.every p.beat.base last p.due p.rested);
      due = due_after job p.beat.every p.due p.rested;
      place = place_after job p.place;
    }

-- the clock of a host that makes clocks
abbrev pub made_by : List ℤ → (last : ℤ) → Pace → Next
made_by clocks last p = made_of (job_clock clocks p.place last) last p

-- a host that stands by makes none
abbrev pub next_of : List ℤ → SharedPlan → (last : ℤ) → Pace → Next
next_of clocks plan last p =
    if stands_in p.silent plan.standby
    then made_by clocks last p
    else record { clock = None; due = p.due; place = p.place }
