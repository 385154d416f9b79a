-- Turns of the host, one after another: what it keeps of its inputs, and when it is done.
use Rattle.std.specs.Prelude.{◌≡◌, ◌⊎◌, ℕ, zero, suc, ◌+◌, ◌≤◌, ◌<◌, ℤ, Bool, true, false, List, length}
use Rattle.std.specs.Prelude.{slice_get, Option, None, Some, is_none, is_some, Ok, Err}
use Rattle.share_turns.specs.Heard.{lowest, nobody}
use Rattle.share_turns.specs.Attendance.{IsNoted, later, lowest_counted, lowest_dropped, none_heard}
use Rattle.share_turns.specs.Told.{Passed}
use Rattle.share_turns.specs.declared.attendance.Attendance.{Attendance}
use Rattle.share_turns.specs.Ends.{floor_for, is_done}
use Rattle.share_law.specs.Parts.{HostPart, part_drop_below}
use Rattle.share_turns.specs.declared.fault.SeriesFault.{SeriesFault}
use Rattle.share_turns.specs.declared.fault.SeriesFault.TheVariants as series
use Rattle.share_turns.specs.declared.fault.TurnFault.{TurnFault}
use Rattle.share_turns.specs.declared.runs.HostPlan.{HostPlan}
use Rattle.share_turns.specs.HostTurn.{IsHeardTurn, IsHostTurn}

-- a host, and which viewers it counts
pub record Hosting : Type 0 where
  pub part : HostPart
  pub attendance : Attendance

abbrev pub hosting : HostPart → Attendance → Hosting
hosting part attendance = record { part = part; attendance = attendance }

-- ---- which inputs the host keeps

-- The floor of a host that keeps the last `keep` of the inputs below `low`, which the viewers have.
-- There is none if the host keeps all inputs or there is no such number.
abbrev pub next_floor : (keep lowest : Option ℕ) → HostPart → Option ℕ
next_floor None low p = None
next_floor (Some n) None p = None
next_floor (Some n) (Some low) p = Some (floor_for n low p.floor p.count)

-- the part after the inputs below the floor, if there is one, are dropped
abbrev pub dropped_below : Option ℕ → HostPart → HostPart
dropped_below None p = p
dropped_below (Some f) p = (part_drop_below p f).1

-- after what is heard, without regard to when
abbrev pub kept_by : (keep : Option ℕ) → (heard : List ℕ) → HostPart → HostPart
kept_by keep heard p = dropped_below (next_floor keep (lowest heard) p) p

-- after what the viewers that are counted have, once inputs may be dropped
abbrev pub kept_for : (keep : Option ℕ) → Attendance → HostPart → HostPart
kept_for keep a p = dropped_below (next_floor keep (lowest_dropped (length p.kept) a) p) p

-- ---- turns

-- a turn; then the host drops the inputs that it doesn't keep, and its port rests
pub record IsKeptTurn (mark : List ℕ) (keep : Option ℕ) (clock : Option ℤ) (a b : Passed)
    (old new : Hosting) : Type 0 where
  pub left : HostPart
  pub came : List ℕ
  pub turn : IsHeardTurn (Ok tt) mark clock a.told b.told old.part left nobody came
  pub noted : Attendance
  pub heard : IsNoted came old.attendance noted
  pub kept : new.part ≡ kept_for keep noted left
  pub millis : ℕ
  pub rested : b.rested ≡ a.rested + millis
  pub after : new.attendance ≡ later millis noted

-- the host has heard of a viewer and numbered the inputs that `plan` requires, and all viewers that
-- it counts have asked past them
abbrev pub is_over : HostPlan → Hosting → Bool
is_over plan h = is_done plan.until (is_some (lowest h.attendance.heard))
    (lowest_counted h.attendance) h.part.count

-- `turns` turns, each while it isn't over. Turn n, counted from 0, has the clock at place n of the
-- list. At first the host has heard of no viewer.
abbrev pub HostTurns : (mark : List ℕ) → List ℤ → HostPlan → (turns : ℕ) → (a b : Passed)
    → (old : HostPart) → (new : Hosting) → Type 0
HostTurns mark clocks plan zero a b old new = (b ≡ a) × (new ≡ hosting old none_heard)
HostTurns mark clocks plan (suc n) a b old new =
    (between : Passed) × (mid : Hosting)
    × HostTurns mark clocks plan n a between old mid
    × (is_over plan mid ≡ false)
    × IsKeptTurn mark plan.keep (slice_get clocks n) between b mid new

-- turns until it was over, or all turns if the plan names no end
pub record AreHosted (mark : List ℕ) (clocks : List ℤ) (plan : HostPlan) (turns : ℕ)
    (a b : Passed) (old new : HostPart) : Type 0 where
  pub done : ℕ
  pub most : done ≤ turns
  pub attendance : Attendance
  pub turned : HostTurns mark clocks plan done a b old (hosting new attendance)
  pub over : (is_over plan (hosting new attendance) ≡ true)
      ⊎ ((is_none plan.until ≡ true) × (done ≡ turns))

-- all the turns were taken, and it isn't over
pub record AreInVain (mark : List ℕ) (clocks : List ℤ) (plan : HostPlan) (turns : ℕ)
    (a b : Passed) (old new : HostPart) : Type 0 where
  pub attendance : Attendance
  pub turned : HostTurns mark clocks plan turns a b old (hosting new attendance)
  pub wanted : is_none plan.until ≡ false
  pub going : is_over plan (hosting new attendance) ≡ false

-- turns, up to one that ended early, after which the port didn't rest
pub record HostTurnsEnd (mark : List ℕ) (clocks : List ℤ) (plan : HostPlan) (turns : ℕ)
    (a b : Passed) (old : HostPart) (fault : TurnFault) (new : HostPart) : Type 0 where
  pub done : ℕ
  pub fewer : done < turns
  pub between : Passed
  pub mid : Hosting
  pub before : HostTurns mark clocks plan done a between old mid
  pub going : is_over plan mid ≡ false
  pub last : IsHostTurn (Err fault) mark (slice_get clocks done) between.told b.told mid.part new
  pub rested : b.rested ≡ between.rested

abbrev pub IsHostEnd : (mark : List ℕ) → List ℤ → HostPlan → (turns : ℕ) → (a b : Passed)
    → (old : HostPart) → SeriesFault → (new : HostPart) → Type 0
IsHostEnd mark clocks plan turns a b old series.TurnsUsedUp new =
    AreInVain mark clocks plan turns a b old new
IsHostEnd mark clocks plan turns a b old (series.Turn fault) new =
    HostTurnsEnd mark clocks plan turns a b old fault new
IsHostEnd mark clocks plan turns a b old (series.Join fault) new = ⊥
