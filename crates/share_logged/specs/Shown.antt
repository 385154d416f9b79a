-- Write-ahead: what a host over a log sends is of entries that the log has stored.
use Rattle.std.specs.Prelude.{◌≡◌, ℕ, ◌+◌, ◌≤◌, List, ◌++◌, length, slice_get, Option, None, Some}
use Rattle.std.specs.Prelude.{⊤}
use Rattle.share_wire.specs.Datagram.{datagram}
use Rattle.share_wire.specs.declared.message.Body.{Body}
use Rattle.share_wire.specs.declared.message.Body.TheVariants.{Input, Offer, Ask, Ack, Floor, Piece}
use Rattle.share_entries.specs.Entry.{EntryView}
use Rattle.share_rules.specs.declared.kept.SeatCount.{SeatCount}
use Rattle.share_law.specs.Host.{ack_of, new_host}
use Rattle.share_turns.specs.declared.traffic.Datagram.{Datagram}
use Rattle.share_turns.specs.declared.traffic.Traffic.{Traffic}
use Rattle.share_turns.specs.declared.traffic.Traffic.TheVariants.{Sent}
use Rattle.laws_hosts.specs.Log.{inputs_of, kept_after}
use Rattle.share_logged.specs.Logged.{logged}

-- an input of these entries, what they have of a viewer's offers, or a floor up to the next input
abbrev pub IsOfEntries : (viewers : ℕ) → List EntryView → Body → Type 0
IsOfEntries viewers entries (Input x) =
    (n : ℕ) × (slice_get (inputs_of (logged entries)) n ≡ Some x)
IsOfEntries viewers entries (Ack a) =
    (kept : SeatCount)
    × (slice_get (kept_after (new_host viewers).kept (logged entries)) a.who ≡ Some kept)
    × (Ack a ≡ ack_of a.who kept)
IsOfEntries viewers entries (Floor f) = f ≤ length entries + 1
IsOfEntries viewers entries (Offer o) = ⊥
IsOfEntries viewers entries (Ask a) = ⊥
IsOfEntries viewers entries (Piece p) = ⊥

-- the datagram is of these entries
pub record IsShown (mark : List ℕ) (viewers : ℕ) (entries : List EntryView) (bytes : List ℕ) :
    Type 0 where
  pub body : Body
  pub text : bytes ≡ datagram (record { mark = mark; body = body })
  pub of_entries : IsOfEntries viewers entries body

abbrev pub AreShown : (mark : List ℕ) → (viewers : ℕ) → List EntryView → List Traffic → Type 0
AreShown mark viewers entries passed =
    (n : ℕ) (d : Datagram) → slice_get passed n ≡ Some (Sent d)
    → IsShown mark viewers entries d.bytes

-- each datagram that a port sent meanwhile is of these entries
abbrev pub Shows : (mark : List ℕ) → (viewers : ℕ) → List EntryView
    → (told_before told_after : Option (List Traffic)) → Type 0
Shows mark viewers entries None b = ⊤
Shows mark viewers entries (Some before) None = ⊥
Shows mark viewers entries (Some before) (Some after) =
    (passed : List Traffic) × (after ≡ before ++ passed) × AreShown mark viewers entries passed
