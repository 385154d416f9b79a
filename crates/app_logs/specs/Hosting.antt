-- Turns of a host over a log, one after another.
use Rattle.std.specs.Prelude.{◌≡◌, ◌⊎◌, ◌++◌, ℕ, zero, suc, ◌≤◌, ◌<◌, ℤ, Bool, true, false, IsTrue, List, slice_get}
use Rattle.std.specs.Prelude.{Option, is_none, Result, Ok, Err}
use Rattle.share_entries.specs.Entry.{EntryView}
use Rattle.share_law.specs.Parts.{HostPart}
use Rattle.share_turns.specs.Heard.{nobody}
use Rattle.share_turns.specs.Runs.{Hosting, is_over}
use Rattle.share_turns.specs.Told.{Passed}
use Rattle.share_logged.specs.declared.fault.LoggedFault.{LoggedFault}
use Rattle.share_logged.specs.Making.{IsOfLog}
use Rattle.share_logged.specs.Resting.{IsRestedTurn}
use Rattle.share_logged.specs.Shown.{Shows}
use Rattle.share_logged.specs.Turn.{IsLoggedEnd, failures_after}
use Rattle.app_logs.specs.Clocks.{clock_for, due_after, beat_clock}
use Rattle.app_logs.specs.declared.fault.RunFault.{RunFault}
use Rattle.app_logs.specs.declared.fault.RunFault.TheVariants as run
use Rattle.app_logs.specs.declared.hosting.LogPlan.{LogPlan}

-- A host, its log and its port at a moment: the host's part and which viewers it counts, when the
-- next clock of its beat is due, the entries that the log has stored, whether no read of the log's
-- device has lied, and what passed the port.
pub record Moment : Type 0 where
  pub host : Hosting
  pub due : ℕ
  pub stored : List EntryView
  pub clean : Bool
  pub passed : Passed

abbrev pub moment : Hosting → (due : ℕ) → (stored : List EntryView) → (clean : Bool) → Passed
    → Moment
moment host due stored clean passed =
    record { host = host; due = due; stored = stored; clean = clean; passed = passed }

-- ---- one turn

-- a whole turn: what it stores and sends, and which inputs the host then keeps; each input, ack and
-- floor that it sends is of entries that are then stored; the host stays the one that the log
-- makes, of which the entries `below` may be known by a base alone
pub record IsTaken (mark : List ℕ) (keep : Option ℕ) (clock : Option ℤ) (was_clean clean : Bool)
    (known stored : List EntryView) (a b : Passed) (old new : Hosting) : Type 0 where
  pub turned : IsRestedTurn mark keep clock clean known stored a b old new
  pub shown : (viewers : ℕ) (below : List EntryView) → IsTrue clean
      → IsOfLog viewers (below ++ known) old.part
      → Shows mark viewers (below ++ stored) a.told b.told
  pub current : (viewers : ℕ) (below : List EntryView) → IsTrue clean
      → IsOfLog viewers (below ++ known) old.part → IsOfLog viewers (below ++ stored) new.part
  pub cleaner : IsTrue clean → IsTrue was_clean

-- a turn that ended early, after which the port didn't rest
pub record IsLastTurn (mark : List ℕ) (clock : Option ℤ) (fault : LoggedFault)
    (was_clean clean : Bool) (known stored : List EntryView) (a b : Passed) (old : HostPart) :
    Type 0 where
  pub ended : IsLoggedEnd mark clock fault clean known stored a.told b.told old nobody
  pub shown : (viewers : ℕ) (below : List EntryView) → IsTrue clean
      → IsOfLog viewers (below ++ known) old
      → Shows mark viewers (below ++ stored) a.told b.told
  pub cleaner : IsTrue clean → IsTrue was_clean
  pub rested : b.rested ≡ a.rested

-- ---- turns

-- The clock of turn n, counted from 0: the one at place n of the job's, or one of the beat. Its
-- reading is the time that the rests of the port took since the host began.
abbrev pub clock_at : List ℤ → LogPlan → (n : ℕ) → Moment → Option ℤ
clock_at clocks plan n m =
    clock_for (slice_get clocks n) (beat_clock plan.beat.every plan.beat.base m.host.part.last m.due
    m.host.attendance.time)

abbrev pub due_at : List ℤ → LogPlan → (n : ℕ) → Moment → ℕ
due_at clocks plan n m =
    due_after (slice_get clocks n) plan.beat.every m.due m.host.attendance.time

abbrev pub IsTurn : (mark : List ℕ) → List ℤ → LogPlan → (n : ℕ) → (a b : Moment) → Type 0
IsTurn mark clocks plan n a b =
    IsTaken mark plan.host.keep (clock_at clocks plan n a) a.clean b.clean a.stored b.stored
    a.passed b.passed a.host b.host
    × (b.due ≡ due_at clocks plan n a)

-- this many turns, each while it isn't over
abbrev pub LogTurns : (mark : List ℕ) → List ℤ → LogPlan → (turns : ℕ) → (old new : Moment)
    → Type 0
LogTurns mark clocks plan zero old new = new ≡ old
LogTurns mark clocks plan (suc n) old new =
    (mid : Moment) × LogTurns mark clocks plan n old mid × (is_over plan.host mid.host ≡ false)
    × IsTurn mark clocks plan n mid new

-- turns until it was over, or all turns if the plan names no end
pub record IsLogRun (mark : List ℕ) (clocks : List ℤ) (plan : LogPlan) (old : Moment)
    (stored : List EntryView) (clean : Bool) (passed : Passed) : Type 0 where
  pub done : ℕ
  pub most : done ≤ plan.turns
  pub new : Moment
  pub turned : LogTurns mark clocks plan done old new
  pub over : (is_over plan.host new.host ≡ true)
      ⊎ ((is_none plan.host.until ≡ true) × (done ≡ plan.turns))
  pub stored_is : stored ≡ new.stored
  pub clean_is : clean ≡ new.clean
  pub passed_is : passed ≡ new.passed

-- all the turns were taken, and it isn't over; or a turn ended early
pub record IsInVain (mark : List ℕ) (clocks : List ℤ) (plan : LogPlan) (old : Moment)
    (stored : List EntryView) (clean : Bool) (passed : Passed) : Type 0 where
  pub new : Moment
  pub turned : LogTurns mark clocks plan plan.turns old new
  pub wanted : is_none plan.host.until ≡ false
  pub going : is_over plan.host new.host ≡ false
  pub stored_is : stored ≡ new.stored
  pub clean_is : clean ≡ new.clean
  pub passed_is : passed ≡ new.passed

pub record IsEndedRun (mark : List ℕ) (clocks : List ℤ) (plan : LogPlan) (old : Moment)
    (fault : LoggedFault) (stored : List EntryView) (clean : Bool) (passed : Passed) : Type 0 where
  pub done : ℕ
  pub fewer : done < plan.turns
  pub mid : Moment
  pub before : LogTurns mark clocks plan done old mid
  pub going : is_over plan.host mid.host ≡ false
  pub last : IsLastTurn mark (clock_at clocks plan done mid) fault mid.clean clean mid.stored stored
      mid.passed passed mid.host.part

abbrev pub IsLogRunEnd : (mark : List ℕ) → List ℤ → LogPlan → (old : Moment) → RunFault
    → (stored : List EntryView) → (clean : Bool) → Passed → Type 0
IsLogRunEnd mark clocks plan old (run.Turn fault) stored clean passed =
    IsEndedRun mark clocks plan old fault stored clean passed
IsLogRunEnd mark clocks plan old run.TurnsUsedUp stored clean passed =
    IsInVain mark clocks plan old stored clean passed

-- how many sends and receives of a port failed, after turns
abbrev pub failures_in : Result (Unit {0}) RunFault → ℕ → ℕ
failures_in (Ok done) n = n
failures_in (Err run.TurnsUsedUp) n = n
failures_in (Err (run.Turn fault)) n = failures_after {A = Unit {0}} (Err fault) n
