-- What a host has numbered and its program hasn't stored, and what the calls on it do.
use Rattle.std.specs.Prelude.{◌≡◌, ◌⊎◌, ◌==◌, ◌&&◌, ℕ, ◌+◌, ◌-◌, ◌^◌, ℤ, min}
use Rattle.std.specs.Prelude.{Bool, true, false, List, [], ◌++◌}
use Rattle.std.specs.Prelude.{length, nat_lt, if◌then◌else◌, Result, Ok, Err}
use Rattle.share_wire.specs.declared.fault.WireFault.{WireFault}
use Rattle.share_wire.specs.declared.message.Message.{Message}
use Rattle.share_wire.specs.declared.message.Body.{Body}
use Rattle.share_wire.specs.declared.message.Body.TheVariants as body
use Rattle.share_entries.specs.Entry.{EntryView}
use Rattle.share_law.specs.declared.fault.HostFault.{HostFault}
use Rattle.share_law.specs.declared.fault.HostFault.TheVariants.{Number}
use Rattle.share_law.specs.declared.fault.NumberFault.{NumberFault}
use Rattle.share_law.specs.declared.fault.NumberFault.TheVariants.{Memory}
use Rattle.share_rules.specs.declared.kept.SeatCount.{SeatCount}
use Rattle.share_law.specs.declared.reply.HostReply.{HostReply}
use Rattle.share_law.specs.Calls.{IsPartClocked, IsPartTakeOf}
use Rattle.share_law.specs.Parts.{HostPart}
use Rattle.share_logged.specs.Turn.{clock_entries, read_entries}
use Rattle.share_pending.specs.Kept.{kept_with, none_kept}
use Rattle.share_pending.specs.Showing.{shown_answer}

-- the number of entries that are stored, and what is kept of each viewer after them; the entries
-- that are being appended, the number of entries with these, and the append's token; and the
-- entries after these
pub record WaitingView : Type 0 where
  pub stored : ℕ
  pub kept : List SeatCount
  pub appending : List EntryView
  pub reached : ℕ
  pub token : ℕ
  pub pending : List EntryView

-- after these entries, which are stored
abbrev pub waiting_after : (viewers : ℕ) → List EntryView → (count : ℕ) → WaitingView
waiting_after viewers entries count =
    record {
      stored = count;
      kept = kept_with (none_kept viewers) entries;
      appending = [];
      reached = count;
      token = 0;
      pending = [];
    }

abbrev pub with_pending : WaitingView → List EntryView → WaitingView
with_pending w entries = record w { pending = entries }

-- ---- numbering

-- a clock is numbered, or refused, and its entry is added; or there was no memory for an entry
abbrev pub IsClockAdded : (p : HostPart) → (before : List EntryView) → (time : ℤ)
    → Result ℕ NumberFault → (q : HostPart) → (after : List EntryView) → Type 0
IsClockAdded p before time result q after =
    (IsPartClocked p time result q × (after ≡ before ++ clock_entries time result))
    ⊎ ((result ≡ Err Memory) × (q ≡ p) × (after ≡ before))

abbrev pub IsClockWaiting : (p : HostPart) → (w : WaitingView) → (time : ℤ)
    → Result ℕ NumberFault → (q : HostPart) → (x : WaitingView) → Type 0
IsClockWaiting p w time result q x =
    (after : List EntryView) × IsClockAdded p w.pending time result q after
    × (x ≡ with_pending w after)

abbrev pub offers : Body → Bool
offers (body.Input x) = false
offers (body.Offer o) = true
offers (body.Ask a) = false
offers (body.Ack a) = false
offers (body.Floor f) = false
offers (body.Piece p) = false

-- a datagram is an offer
abbrev pub is_offer : Result Message WireFault → Bool
is_offer (Ok message) = offers message.body
is_offer (Err fault) = false

-- A datagram is taken, or refused; its entry, if it is an offer that was numbered, is added; an ask
-- is answered by the `stored` entries alone.
pub record IsTaken (mark : List ℕ) (stored : ℕ) (p : HostPart) (before : List EntryView)
    (read : Result Message WireFault) (result : Result HostReply HostFault) (q : HostPart)
    (after : List EntryView) : Type 0 where
  pub answer : Result HostReply HostFault
  pub took : IsPartTakeOf mark p read answer q
  pub shown : result ≡ shown_answer stored answer
  pub added : after ≡ before ++ read_entries p.last read answer

-- there was no memory for the entry of an offer
pub record IsOfferRefused (p : HostPart) (before : List EntryView)
    (read : Result Message WireFault) (result : Result HostReply HostFault) (q : HostPart)
    (after : List EntryView) : Type 0 where
  pub offer : is_offer read ≡ true
  pub memory : result ≡ Err (Number Memory)
  pub part : q ≡ p
  pub same : after ≡ before

abbrev pub IsTakeAdded : (mark : List ℕ) → (stored : ℕ) → (p : HostPart)
    → (before : List EntryView) → Result Message WireFault → Result HostReply HostFault
    → (q : HostPart) → (after : List EntryView) → Type 0
IsTakeAdded mark stored p before read result q after =
    IsTaken mark stored p before read result q after
    ⊎ IsOfferRefused p before read result q after

abbrev pub IsTakeWaiting : (mark : List ℕ) → (p : HostPart) → (w : WaitingView)
    → Result Message WireFault → Result HostReply HostFault → (q : HostPart) → (x : WaitingView)
    → Type 0
IsTakeWaiting mark p w read result q x =
    (after : List EntryView) × IsTakeAdded mark w.stored p w.pending read result q after
    × (x ≡ with_pending w after)

-- ---- storing

-- an append can begin: none is under way, and entries wait
abbrev pub begins : (appending pending : List EntryView) → Bool
begins appending pending = if nat_lt 0 (length appending) then false else nat_lt 0 (length pending)

abbrev pub with_append : WaitingView → (count : ℕ) → WaitingView
with_append w count =
    record w {
      appending = w.pending;
      reached = count;
      token = min (w.token + 1) (2 ^ 32 - 1);
      pending = [];
    }

-- An append begins with all entries that wait, if one can. The host has numbered `count` inputs.
abbrev pub begun : WaitingView → (count : ℕ) → WaitingView
begun w count = if begins w.appending w.pending then with_append w count else w

-- an append with this token is under way
abbrev pub is_awaited : WaitingView → (token : ℕ) → Bool
is_awaited w token = nat_lt 0 (length w.appending) && (w.token == token)

-- the entries that were being appended are stored
abbrev pub stored_now : WaitingView → WaitingView
stored_now w =
    record w {
      stored = w.reached;
      kept = kept_with w.kept w.appending;
      appending = [];
    }

abbrev pub stored_by : WaitingView → (token : ℕ) → WaitingView
stored_by w token = if is_awaited w token then stored_now w else w
