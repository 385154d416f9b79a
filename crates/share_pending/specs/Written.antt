-- Write-ahead: the law of a host whose entries its program stores.
use Rattle.std.specs.Prelude.{◌≡◌, ℕ, ◌+◌, ◌≤◌, List, ◌++◌, length, Option, None, Some, Bool}
use Rattle.std.specs.Prelude.{true, false, ⊤}
use Rattle.share_entries.specs.Entry.{EntryView}
use Rattle.share_law.specs.Parts.{HostPart}
use Rattle.share_law.specs.Host.{new_host}
use Rattle.laws_hosts.specs.Log.{kept_after}
use Rattle.share_logged.specs.Logged.{logged}
use Rattle.share_logged.specs.Making.{IsOfLog}
use Rattle.share_logged.specs.Shown.{IsShown}
use Rattle.share_pending.specs.Waiting.{WaitingView}

-- `log` has the entries that are stored. The host is the one that these make and those that wait.
pub record IsAhead (viewers : ℕ) (log : List EntryView) (p : HostPart) (w : WaitingView) :
    Type 0 where
  pub made : IsOfLog viewers ((log ++ w.appending) ++ w.pending) p
  pub stored : w.stored ≡ length log
  pub reached : w.reached ≡ length log + length w.appending
  pub kept : w.kept ≡ kept_after (new_host viewers).kept (logged log)
  pub floor : p.floor ≤ length log + 1

-- a call on a host leaves its log as it was
abbrev pub StaysAhead : (p : HostPart) → (w : WaitingView) → (q : HostPart) → (x : WaitingView)
    → Type 0
StaysAhead p w q x =
    (viewers : ℕ) (log : List EntryView) → IsAhead viewers log p w → IsAhead viewers log q x

-- the entries that were being appended are now of the log, if the answer was awaited
abbrev pub log_after : Bool → List EntryView → WaitingView → List EntryView
log_after true log w = log ++ w.appending
log_after false log w = log

abbrev pub GrowsByStored : (p : HostPart) → (w : WaitingView) → Bool → (x : WaitingView) → Type 0
GrowsByStored p w answer x =
    (viewers : ℕ) (log : List EntryView) → IsAhead viewers log p w
    → IsAhead viewers (log_after answer log w) p x

-- the datagram, if there is one, is of entries that are stored
abbrev pub ShowsStored : (mark : List ℕ) → (p : HostPart) → (w : WaitingView)
    → Option (List ℕ) → Type 0
ShowsStored mark p w None = ⊤
ShowsStored mark p w (Some bytes) =
    (viewers : ℕ) (log : List EntryView) → IsAhead viewers log p w
    → IsShown mark viewers log bytes
