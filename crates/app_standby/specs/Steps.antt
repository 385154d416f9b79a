-- What each step of a run keeps.
use Rattle.std.specs.Prelude.{ℕ, Bool, IsTrue, List, Option}
use Rattle.share_entries.specs.Entry.{EntryView}
use Rattle.share_store.specs.OneLog.{Begins}
use Rattle.share_turns.specs.declared.traffic.Traffic.{Traffic}
use Rattle.app_standby.specs.Shared.{ShowsFirst}

-- A log and a port at a moment: the log's entries, those below its base too, whether no read of its
-- device has lied, and what the port has recorded.
pub record Moment : Type 0 where
  pub known : List EntryView
  pub clean : Bool
  pub told : Option (List Traffic)

abbrev pub moment : (known : List EntryView) → (clean : Bool) → Option (List Traffic) → Moment
moment known clean told = record { known = known; clean = clean; told = told }

-- The log only grows. If the host was that of its log (`was`), then each datagram that was sent
-- meanwhile is of first entries of the log, and the host after it is that of its log (`is`).
pub record Goes (mark : List ℕ) (viewers : ℕ) (a b : Moment) (was is : Type 0) : Type 0 where
  pub clean : IsTrue b.clean → IsTrue a.clean
  pub grows : IsTrue b.clean → Begins a.known b.known
  pub shown : IsTrue b.clean → was → ShowsFirst mark viewers b.known a.told b.told
  pub stays : IsTrue b.clean → was → is
