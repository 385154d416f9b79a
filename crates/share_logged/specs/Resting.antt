-- A turn of a host over a log, after which it drops inputs and its port rests.
use Rattle.std.specs.Prelude.{◌≡◌, ◌+◌, ℕ, ℤ, Bool, List, Option}
use Rattle.share_entries.specs.Entry.{EntryView}
use Rattle.share_law.specs.Parts.{HostPart}
use Rattle.share_turns.specs.Attendance.{IsNoted, later}
use Rattle.share_turns.specs.Heard.{nobody}
use Rattle.share_turns.specs.Runs.{Hosting, kept_for}
use Rattle.share_turns.specs.Told.{Passed}
use Rattle.share_turns.specs.declared.attendance.Attendance.{Attendance}
use Rattle.share_logged.specs.Turn.{IsLoggedTurn}

-- The host notes which viewers asked in its turn, drops the inputs that it doesn't keep, and its
-- port rests; like `IsKeptTurn` of share_turns, for a host without a log.
pub record IsSettled (keep : Option ℕ) (came : List ℕ) (left new : HostPart)
    (before after : Attendance) (millis : ℕ) : Type 0 where
  pub noted : Attendance
  pub heard : IsNoted came before noted
  pub kept : new ≡ kept_for keep noted left
  pub passed : after ≡ later millis noted

-- a turn over a log, and what follows it
pub record IsRestedTurn (mark : List ℕ) (keep : Option ℕ) (clock : Option ℤ) (clean : Bool)
    (known stored : List EntryView) (a b : Passed) (old new : Hosting) : Type 0 where
  pub left : HostPart
  pub came : List ℕ
  pub turned : IsLoggedTurn mark clock clean known stored a.told b.told old.part left nobody came
  pub millis : ℕ
  pub settled : IsSettled keep came left new.part old.attendance new.attendance millis
  pub rested : b.rested ≡ a.rested + millis
