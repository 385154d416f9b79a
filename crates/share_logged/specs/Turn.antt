-- A turn of a host over a log: it numbers a clock and the offers among the datagrams that arrived,
-- stores what it numbered, and only then sends the answers.
use Rattle.std.specs.Prelude.{◌≡◌, ◌≢◌, ◌⊎◌, ℕ, ◌≤◌, ℤ, pos, ◌+ℤ◌, Bool, true, false, IsTrue}
use Rattle.std.specs.Prelude.{List, [], ◌∷◌, ◌++◌, map, length, Option, None, Some, Result, Ok}
use Rattle.std.specs.Prelude.{Err, is_ok, if◌then◌else◌}
use Rattle.std.specs.List.{flat_map}
use Rattle.share_wire.specs.Decoding.{decoded}
use Rattle.share_wire.specs.declared.fault.WireFault.{WireFault}
use Rattle.share_wire.specs.declared.message.Body.{Body}
use Rattle.share_wire.specs.declared.message.Body.TheVariants as body
use Rattle.share_wire.specs.declared.message.Message.{Message}
use Rattle.share_entries.specs.Entry.{EntryView}
use Rattle.share_entries.specs.declared.entry.Source.TheVariants.{Clock, Offer}
use Rattle.share_law.specs.declared.fault.HostFault.{HostFault}
use Rattle.share_law.specs.declared.fault.NumberFault.{NumberFault}
use Rattle.share_law.specs.declared.reply.HostReply.{HostReply}
use Rattle.share_law.specs.declared.reply.HostReply.TheVariants.{Numbered}
use Rattle.share_law.specs.Parts.{HostPart}
use Rattle.share_law.specs.Calls.{IsPartClocked, IsPartTakeOf}
use Rattle.share_law.specs.Network.{Clocked, HostTook}
use Rattle.share_law.specs.Steps.{says_memory}
use Rattle.share_turns.specs.declared.fault.TurnFault.{TurnFault}
use Rattle.share_turns.specs.declared.fault.TurnFault.TheVariants.{Port}
use Rattle.share_turns.specs.declared.traffic.Datagram.{Datagram}
use Rattle.share_turns.specs.declared.traffic.Traffic.{Traffic}
use Rattle.share_turns.specs.declared.traffic.Traffic.TheVariants.{Received}
use Rattle.share_turns.specs.Told.{Grows, one_more}
use Rattle.share_turns.specs.Exchanges.{IsEnd, most_taken, sent_to}
use Rattle.share_turns.specs.HostTurn.{datagrams_for, hears}
use Rattle.share_turns.specs.Refusals.{IsAnswerAfter}
use Rattle.share_logged.specs.declared.fault.LoggedFault.{LoggedFault}
use Rattle.share_logged.specs.declared.fault.LoggedFault.TheVariants as logged_fault

-- ---- the entries of what a host numbers

-- the entry of a clock, if it was numbered
abbrev pub clock_entries : ℤ → Result ℕ NumberFault → List EntryView
clock_entries time (Ok n) = record { time = time; source = Clock } ∷ []
clock_entries time (Err fault) = []

-- the entry of an offer, 1 microsecond after an input at time `last`
abbrev pub offer_entries : (last : ℤ) → Body → List EntryView
offer_entries last (body.Input x) = []
offer_entries last (body.Offer o) = record { time = last +ℤ pos 1; source = Offer o } ∷ []
offer_entries last (body.Ask a) = []
offer_entries last (body.Ack a) = []
offer_entries last (body.Floor f) = []
offer_entries last (body.Piece p) = []

abbrev pub is_numbered : Result HostReply HostFault → Bool
is_numbered (Ok (Numbered n)) = true
is_numbered answer = false

-- the entry of an offer that was numbered, given what was decoded and what the host answered
abbrev pub read_entries : (last : ℤ) → Result Message WireFault → Result HostReply HostFault
    → List EntryView
read_entries last (Err fault) answer = []
read_entries last (Ok message) answer =
    if is_numbered answer then offer_entries last message.body else []

-- ---- what a host takes

-- the host numbers a clock, if there is one, or refuses it, perhaps as memory is refused
abbrev pub IsClockTaken : HostPart → Option ℤ → (refused : Bool) → List EntryView → HostPart
    → Type 0
IsClockTaken h None refused entries new = (entries ≡ []) × (refused ≡ false) × (new ≡ h)
IsClockTaken h (Some time) refused entries new =
    (answer : Result ℕ NumberFault) × IsPartClocked h time answer new
    × (refused ≡ says_memory (Clocked answer)) × (entries ≡ clock_entries time answer)

-- a datagram that arrived, and what the host answered to it
pub record Taking : Type 0 where
  pub came : Datagram
  pub answer : Result HostReply HostFault

-- the host takes datagrams, one after another, and numbers the offers of these entries
abbrev pub AreTaken : (mark : List ℕ) → HostPart → List Taking → List EntryView → HostPart → Type 0
AreTaken mark h [] entries new = (entries ≡ []) × (new ≡ h)
AreTaken mark h (t ∷ ts) entries new =
    (next : HostPart) × (later : List EntryView)
    × IsPartTakeOf mark h (decoded t.came.bytes) t.answer next
    × (entries ≡ read_entries h.last (decoded t.came.bytes) t.answer ++ later)
    × AreTaken mark next ts later new

abbrev pub heard_in : (mark : List ℕ) → (viewers : ℕ) → (heard : List ℕ) → List Taking → List ℕ
heard_in mark viewers heard [] = heard
heard_in mark viewers heard (t ∷ ts) =
    heard_in mark viewers (hears mark viewers heard t.came.bytes) ts

abbrev pub refusals_of : List Taking → List Bool
refusals_of ts = map (λ t. says_memory (HostTook t.answer)) ts

abbrev pub received : List Taking → List Traffic
received ts = map (λ t. Received t.came) ts

-- ---- a turn, up to its append

-- The clock, and then datagrams, as many as a turn takes or until no more arrive; nothing is sent.
-- These entries were numbered. What the host had heard of its viewers is `before`, then `after`.
pub record IsGathered (result : Result (Unit {0}) TurnFault) (mark : List ℕ) (clock : Option ℤ)
    (told_before told_after : Option (List Traffic)) (old new : HostPart)
    (before after : List ℕ) (takings : List Taking) (entries : List EntryView) : Type 0 where
  pub refused : Bool
  pub begun : HostPart
  pub first : List EntryView
  pub later : List EntryView
  pub clocked : IsClockTaken old clock refused first begun
  pub taken : AreTaken mark begun takings later new
  pub numbered : entries ≡ first ++ later
  pub heard : after ≡ heard_in mark (length old.kept) before takings
  pub memory : IsAnswerAfter (refused ∷ refusals_of takings) result
  pub most : length takings ≤ most_taken
  pub rest : List Traffic
  pub ended : IsEnd (is_ok result) (length takings) rest
  pub told : Grows told_before told_after (received takings ++ rest)

-- ---- a turn

-- the answers to a datagram, by the part that the host then holds
abbrev pub answers_to : (mark : List ℕ) → HostPart → Taking → List Traffic
answers_to mark h t = sent_to t.came.peer (datagrams_for mark h t.came.bytes t.answer)

abbrev pub all_answers : (mark : List ℕ) → HostPart → List Taking → List Traffic
all_answers mark h ts = flat_map (answers_to mark h) ts

-- A whole turn. The log knew `known`; what was numbered was stored, and then all was answered, by
-- the part that the host holds after it. If a read of the log's device has lied (`clean` is false),
-- nothing is said of what it knows.
pub record IsLoggedTurn (mark : List ℕ) (clock : Option ℤ) (clean : Bool)
    (known stored : List EntryView) (a b : Option (List Traffic)) (old new : HostPart)
    (before after : List ℕ) : Type 0 where
  pub takings : List Taking
  pub entries : List EntryView
  pub between : Option (List Traffic)
  pub gathered : IsGathered (Ok tt) mark clock a between old new before after takings entries
  pub has_stored : IsTrue clean → stored ≡ known ++ entries
  pub told : Grows between b (all_answers mark new takings)

-- the turn ended before anything was stored; nothing was sent
pub record IsCut (mark : List ℕ) (clock : Option ℤ) (fault : TurnFault)
    (known stored : List EntryView) (a b : Option (List Traffic)) (old : HostPart)
    (before : List ℕ) : Type 0 where
  pub new : HostPart
  pub after : List ℕ
  pub takings : List Taking
  pub entries : List EntryView
  pub gathered : IsGathered (Err fault) mark clock a b old new before after takings entries
  pub same : stored ≡ known

-- the log refused what was numbered; nothing was sent
pub record IsUnstored (mark : List ℕ) (clock : Option ℤ) (clean : Bool)
    (known stored : List EntryView) (a b : Option (List Traffic)) (old : HostPart)
    (before : List ℕ) : Type 0 where
  pub new : HostPart
  pub after : List ℕ
  pub takings : List Taking
  pub entries : List EntryView
  pub some : entries ≢ []
  pub gathered : IsGathered (Ok tt) mark clock a b old new before after takings entries
  pub same : IsTrue clean → stored ≡ known

-- what was numbered was stored, and then the port failed after some of the answers
pub record IsUnsent (mark : List ℕ) (clock : Option ℤ) (clean : Bool)
    (known stored : List EntryView) (a b : Option (List Traffic)) (old : HostPart)
    (before : List ℕ) : Type 0 where
  pub new : HostPart
  pub after : List ℕ
  pub takings : List Taking
  pub entries : List EntryView
  pub between : Option (List Traffic)
  pub sent : List Traffic
  pub lost : List Traffic
  pub gathered : IsGathered (Ok tt) mark clock a between old new before after takings entries
  pub has_stored : IsTrue clean → stored ≡ known ++ entries
  pub front : sent ++ lost ≡ all_answers mark new takings
  pub told : Grows between b sent

-- a turn that ended early
abbrev pub IsLoggedEnd : (mark : List ℕ) → (clock : Option ℤ) → LoggedFault → (clean : Bool)
    → (known stored : List EntryView) → (a b : Option (List Traffic)) → (old : HostPart)
    → (before : List ℕ) → Type 0
IsLoggedEnd mark clock (logged_fault.Turn fault) clean known stored a b old before =
    IsCut mark clock fault known stored a b old before
    ⊎ ((fault ≡ Port) × IsUnsent mark clock clean known stored a b old before)
IsLoggedEnd mark clock (logged_fault.Log fault) clean known stored a b old before =
    IsUnstored mark clock clean known stored a b old before

-- the number of sends and receives of a port that failed, after a turn
abbrev pub failures_after : {A : Type 0} → Result A LoggedFault → ℕ → ℕ
failures_after (Err (logged_fault.Turn Port)) n = one_more n
failures_after result n = n
