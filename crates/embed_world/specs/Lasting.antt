-- A host that was resumed, with what of it isn't stored; a host that was opened has no log.
use Rattle.std.specs.Prelude.{◌≡◌, ℕ, ◌+◌, ℤ, Bool, true, false, List, Option, None, Some, Result, Ok, Err, IfOk, IfErr, ⊤}
use Rattle.std.specs.Option.{option_map}
use Rattle.share_entries.specs.Entry.{EntryView}
use Rattle.share_law.specs.Calls.{IsPartClocked, IsPartTakeOf}
use Rattle.share_law.specs.Parts.{HostPart, part_drop_below, part_packet}
use Rattle.share_law.specs.declared.fault.FloorFault.{FloorFault}
use Rattle.share_law.specs.declared.fault.HostFault.{HostFault}
use Rattle.share_law.specs.declared.fault.NumberFault.{NumberFault}
use Rattle.share_law.specs.declared.reply.HostReply.{HostReply}
use Rattle.share_pending.specs.Answer.{goes_on}
use Rattle.share_pending.specs.Showing.{packet_bytes, stored_drop, stored_keeping}
use Rattle.share_pending.specs.Showing as showing
use Rattle.share_pending.specs.Waiting.{IsClockWaiting, IsTakeWaiting, WaitingView, begun, is_awaited, stored_by}
use Rattle.share_pending.specs.Written.{IsAhead, ShowsStored, log_after}
use Rattle.share_pending.specs.declared.answer.AppendAnswer.{AppendAnswer}
use Rattle.share_pending.specs.declared.answer.AppendAnswer.TheVariants.{InDoubt, Stored, Taken}
use Rattle.share_turns.specs.HostTurn.{datagram_of}
use Rattle.share_turns.specs.Runs.{kept_by}
use Rattle.share_wire.specs.declared.fault.WireFault.{WireFault}
use Rattle.share_wire.specs.declared.message.Message.{Message}
use Rattle.embed_entries.specs.Appends.{append_text}
use Rattle.embed_world.specs.declared.host.EmbeddedHost.{EmbeddedHost}
use Rattle.embed_world.specs.declared.lasting.Append.{Append}
use Rattle.embed_world.specs.declared.lasting.AppendFault.{AppendFault}
use Rattle.embed_world.specs.declared.lasting.AppendFault.TheVariants.{Memory, NotAwaited, NotLasting}

-- ---- numbering

-- a clock is numbered, or refused; its entry waits if the host has a log
abbrev pub IsClockedBy : Option WaitingView → HostPart → ℤ → Result ℕ NumberFault → HostPart
    → Option WaitingView → Type 0
IsClockedBy None p time result q after = IsPartClocked p time result q × (after ≡ None)
IsClockedBy (Some w) p time result q after =
    (x : WaitingView) × IsClockWaiting p w time result q x × (after ≡ Some x)

-- a datagram is taken, or refused; the entry of an offer waits if the host has a log
abbrev pub IsTakenBy : (mark : List ℕ) → Option WaitingView → HostPart → Result Message WireFault
    → Result HostReply HostFault → HostPart → Option WaitingView → Type 0
IsTakenBy mark None p read result q after = IsPartTakeOf mark p read result q × (after ≡ None)
IsTakenBy mark (Some w) p read result q after =
    (x : WaitingView) × IsTakeWaiting mark p w read result q x × (after ≡ Some x)

-- ---- showing

-- the datagram of an input, if there is one, and it is stored if the host has a log
abbrev pub packet_by : (mark : List ℕ) → Option WaitingView → HostPart → (number : ℕ)
    → Option (List ℕ)
packet_by mark None p number = option_map (datagram_of mark) (part_packet p number)
packet_by mark (Some w) p number = packet_bytes mark w.stored p number

-- the datagram of what is kept of a viewer, by its stored offers if the host has a log
abbrev pub ack_by : (mark : List ℕ) → Option WaitingView → HostPart → (who : ℕ)
    → Option (List ℕ)
ack_by mark None p who = showing.ack_bytes mark p.kept who
ack_by mark (Some w) p who = showing.ack_bytes mark w.kept who

-- ---- dropping

-- inputs are dropped, but none that isn't stored
abbrev pub drop_by : Option WaitingView → HostPart → (floor : ℕ) → Result ℕ FloorFault × HostPart
drop_by None p floor = part_drop_below p floor
drop_by (Some w) p floor = stored_drop w.stored p floor

abbrev pub keeping_by : Option WaitingView → (count : ℕ) → (heard : List ℕ) → HostPart → HostPart
keeping_by None count heard p = kept_by (Some count) heard p
keeping_by (Some w) count heard p = stored_keeping w.stored count heard p

-- ---- appending

-- the token of the append that is under way, and its bytes
abbrev pub IsAppend : (mark : List ℕ) → WaitingView → Append → Type 0
IsAppend mark w append =
    (append.token ≡ w.token)
    × (append.bytes.items ≡ append_text mark (w.stored + 1) w.appending)

abbrev pub with_waiting : EmbeddedHost → WaitingView → EmbeddedHost
with_waiting h w = record h { lasting = Some w }

-- An append begins, unless one is under way, and its bytes are made. A refusal of memory leaves it
-- begun.
abbrev pub BeginsWith : Option WaitingView → EmbeddedHost → Result Append AppendFault
    → EmbeddedHost → Type 0
BeginsWith None old result new = (result ≡ Err NotLasting) × (new ≡ old)
BeginsWith (Some w) old result new =
    (new ≡ with_waiting old (begun w old.host.part.count))
    × IfOk result (IsAppend old.host.mark (begun w old.host.part.count))
    × IfErr result (λ fault. fault ≡ Memory)

abbrev pub Begins : EmbeddedHost → Result Append AppendFault → EmbeddedHost → Type 0
Begins old result new = BeginsWith old.lasting old result new

-- whether the host goes on after an answer to an append that is awaited, and what is then stored
abbrev pub answered : AppendAnswer → (token : ℕ) → WaitingView → WaitingView
answered Stored token w = stored_by w token
answered Taken token w = w
answered InDoubt token w = w

abbrev pub IsAnsweredIf : (awaited : Bool) → WaitingView → (token : ℕ) → AppendAnswer
    → Result Bool AppendFault → WaitingView → Type 0
IsAnsweredIf false w token answer result x = (result ≡ Err NotAwaited) × (x ≡ w)
IsAnsweredIf true w token answer result x =
    (result ≡ Ok (goes_on answer)) × (x ≡ answered answer token w)

-- an answer is taken if the append with this token is under way
abbrev pub IsAnswered : WaitingView → (token : ℕ) → AppendAnswer → Result Bool AppendFault
    → WaitingView → Type 0
IsAnswered w token answer result x =
    IsAnsweredIf (is_awaited w token) w token answer result x

abbrev pub AnswersWith : Option WaitingView → (token : ℕ) → AppendAnswer → EmbeddedHost
    → Result Bool AppendFault → EmbeddedHost → Type 0
AnswersWith None token answer old result new = (result ≡ Err NotLasting) × (new ≡ old)
AnswersWith (Some w) token answer old result new =
    (x : WaitingView) × IsAnswered w token answer result x × (new ≡ with_waiting old x)

-- the answer of the log to the append with this token is taken, if it is awaited
abbrev pub Answers : (token : ℕ) → AppendAnswer → EmbeddedHost → Result Bool AppendFault
    → EmbeddedHost → Type 0
Answers token answer old result new = AnswersWith old.lasting token answer old result new

-- ---- write-ahead

-- the host has a log, these entries, and it is the one that they and those that wait make
abbrev pub IsAheadBy : Option WaitingView → (viewers : ℕ) → (log : List EntryView) → HostPart
    → Type 0
IsAheadBy None viewers log p = ⊥
IsAheadBy (Some w) viewers log p = IsAhead viewers log p w

abbrev pub IsHostAhead : (viewers : ℕ) → (log : List EntryView) → EmbeddedHost → Type 0
IsHostAhead viewers log h = IsAheadBy h.lasting viewers log h.host.part

-- the host's log stays as it was
abbrev pub KeepsLog : (old new : EmbeddedHost) → Type 0
KeepsLog old new =
    (viewers : ℕ) (log : List EntryView) → IsHostAhead viewers log old
    → IsHostAhead viewers log new

-- a datagram, if there is one, is of entries of the host's log
abbrev pub ShowsBy : Option WaitingView → (mark : List ℕ) → HostPart → Option (List ℕ) → Type 0
ShowsBy None mark p bytes = ⊤
ShowsBy (Some w) mark p bytes = ShowsStored mark p w bytes

abbrev pub Shows : EmbeddedHost → Option (List ℕ) → Type 0
Shows h bytes = ShowsBy h.lasting h.host.mark h.host.part bytes

-- the host's log after an answer: with the entries that were appended, if they are stored
abbrev pub log_by : AppendAnswer → Bool → List EntryView → WaitingView → List EntryView
log_by Stored awaited log w = log_after awaited log w
log_by Taken awaited log w = log
log_by InDoubt awaited log w = log

abbrev pub GrowsBy : Option WaitingView → AppendAnswer → (token : ℕ) → (old new : EmbeddedHost)
    → Type 0
GrowsBy None answer token old new = ⊤
GrowsBy (Some w) answer token old new =
    (viewers : ℕ) (log : List EntryView) → IsAhead viewers log old.host.part w
    → IsHostAhead viewers (log_by answer (is_awaited w token) log w) new

-- the host's log grows by the entries of the append that is answered, and by nothing else
abbrev pub GrowsLog : AppendAnswer → (token : ℕ) → (old new : EmbeddedHost) → Type 0
GrowsLog answer token old new = GrowsBy old.lasting answer token old new
