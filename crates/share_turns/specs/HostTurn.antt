-- A turn of the host: it numbers a clock, if there is one, and answers the datagrams that arrive.
use Rattle.std.specs.Prelude.{◌≡◌, ℕ, ◌≤◌, ℤ, Bool, true, false, List, [], ◌∷◌, ◌++◌, map, length}
use Rattle.std.specs.Prelude.{slice_get, Option, Some, None, Result, Ok, Err, is_ok, nat_eq, nat_lt}
use Rattle.std.specs.Prelude.{if◌then◌else◌}
use Rattle.std.specs.Cmp.Lexicographic.{pointwise}
use Rattle.std.specs.List.{flat_map, range_with_len}
use Rattle.share_turns.specs.Heard.{hear}
use Rattle.share_wire.specs.Messages.{AskView}
use Rattle.share_wire.specs.Datagram.{datagram}
use Rattle.share_wire.specs.Decoding.{decoded}
use Rattle.share_wire.specs.declared.fault.WireFault.{WireFault}
use Rattle.share_wire.specs.declared.message.Body.{Body}
use Rattle.share_wire.specs.declared.message.Body.TheVariants.{Input, Offer, Ask, Ack, Floor, Piece}
use Rattle.share_wire.specs.declared.message.Message.{Message}
use Rattle.share_law.specs.declared.fault.HostFault.{HostFault}
use Rattle.share_law.specs.declared.fault.NumberFault.{NumberFault}
use Rattle.share_rules.specs.declared.kept.SeatCount.{SeatCount}
use Rattle.share_law.specs.declared.reply.HostReply.{HostReply}
use Rattle.share_law.specs.declared.reply.HostReply.TheVariants.{Asked, Below}
use Rattle.share_law.specs.Host.{ack_of}
use Rattle.share_law.specs.Parts.{HostPart, part_packet, part_floor_packet}
use Rattle.share_law.specs.Calls.{IsPartClocked, IsPartTakeOf}
use Rattle.share_law.specs.Network.{Clocked, HostTook}
use Rattle.share_law.specs.Steps.{says_memory}
use Rattle.share_turns.specs.declared.traffic.Datagram.{Datagram}
use Rattle.share_turns.specs.declared.traffic.Traffic.{Traffic}
use Rattle.share_turns.specs.Told.{Grows, one_more}
use Rattle.share_turns.specs.declared.fault.TurnFault.{TurnFault}
use Rattle.share_turns.specs.declared.fault.TurnFault.TheVariants.{Port}
use Rattle.share_turns.specs.Exchanges.{Exchange, all_traffic, refusals_in, sent_to}
use Rattle.share_turns.specs.Exchanges.{IsEnd, IsSentOf, most_taken}
use Rattle.share_turns.specs.Refusals.{IsAnswerAfter}

-- ---- what is sent for a datagram

abbrev pub listed : {A : Type 0} → Option A → List A
listed None = []
listed (Some x) = x ∷ []

-- the inputs that were asked for, or the floor if they are below it
abbrev pub inputs_for : HostPart → HostReply → List Body
inputs_for h (Asked first count) =
    flat_map (λ n. listed (part_packet h n)) (range_with_len first count)
inputs_for h (Below f) = part_floor_packet h ∷ []
inputs_for h reply = []

-- the viewer that offered or asked
abbrev pub sender_in : Body → Option ℕ
sender_in (Input s) = None
sender_in (Offer o) = Some o.pointer.who
sender_in (Ask a) = Some a.who
sender_in (Ack a) = None
sender_in (Floor f) = None
sender_in (Piece p) = None

abbrev pub sender_of : Result Message WireFault → Option ℕ
sender_of (Ok message) = sender_in message.body
sender_of (Err fault) = None

abbrev pub ack_to : (who : ℕ) → Option SeatCount → List Body
ack_to who None = []
ack_to who (Some kept) = ack_of who kept ∷ []

-- an ack to the viewer that offered or asked
abbrev pub acks_for : HostPart → Option ℕ → List Body
acks_for h None = []
acks_for h (Some who) = ack_to who (slice_get h.kept who)

abbrev pub bodies_for : HostPart → Option ℕ → HostReply → List Body
bodies_for h sender reply = inputs_for h reply ++ acks_for h sender

-- the datagram of a body in the scene with this mark
abbrev pub datagram_of : (mark : List ℕ) → Body → List ℕ
datagram_of mark body = datagram (record { mark = mark; body = body })

abbrev pub datagrams_of : (mark : List ℕ) → List Body → List (List ℕ)
datagrams_of mark bodies = map (datagram_of mark) bodies

-- what a host sends after it took these bytes; nothing if it refused them
abbrev pub datagrams_for : (mark : List ℕ) → HostPart → (came : List ℕ)
    → Result HostReply HostFault → List (List ℕ)
datagrams_for mark h came (Ok reply) =
    datagrams_of mark (bodies_for h (sender_of (decoded came)) reply)
datagrams_for mark h came (Err fault) = []

-- ---- what the host hears of its viewers

abbrev pub ask_in : Body → Option AskView
ask_in (Input s) = None
ask_in (Offer o) = None
ask_in (Ask a) = Some a
ask_in (Ack a) = None
ask_in (Floor f) = None
ask_in (Piece p) = None

-- the ask that was decoded, if it has the mark of this scene
abbrev pub asked_of : (mark : List ℕ) → Result Message WireFault → Option AskView
asked_of mark (Ok message) =
    if pointwise nat_eq message.mark mark then ask_in message.body else None
asked_of mark (Err fault) = None

-- the host hears the ask, if it is of one of its viewers
abbrev pub hear_from : (viewers : ℕ) → (heard : List ℕ) → Option AskView → List ℕ
hear_from viewers heard None = heard
hear_from viewers heard (Some a) =
    if nat_lt a.who viewers then hear heard a.who a.next else heard

abbrev pub hears : (mark : List ℕ) → (viewers : ℕ) → (heard came : List ℕ) → List ℕ
hears mark viewers heard came = hear_from viewers heard (asked_of mark (decoded came))

abbrev pub all_heard : (mark : List ℕ) → (viewers : ℕ) → (heard : List ℕ) → List Exchange → List ℕ
all_heard mark viewers heard [] = heard
all_heard mark viewers heard (e ∷ es) =
    all_heard mark viewers (hears mark viewers heard e.came.bytes) es

-- ---- a turn

-- all was sent, unless the port failed
abbrev pub is_whole : {A : Type 0} → Result A TurnFault → Bool
is_whole (Err Port) = false
is_whole result = true

-- the number of sends and receives of a port that failed, after a turn
abbrev pub failures_after : {A : Type 0} → Result A TurnFault → ℕ → ℕ
failures_after (Err Port) n = one_more n
failures_after result n = n

-- the host numbers a clock, if there is one, or refuses it, perhaps as memory is refused
abbrev pub IsBegun : HostPart → Option ℤ → (refused : Bool) → HostPart → Type 0
IsBegun h None refused new = (new ≡ h) × (refused ≡ false)
IsBegun h (Some time) refused new =
    (answer : Result ℕ NumberFault) × IsPartClocked h time answer new
    × (refused ≡ says_memory (Clocked answer))

-- the host takes a datagram, and sends the answers to it
pub record IsAnswered (whole : Bool) (mark : List ℕ) (h : HostPart) (e : Exchange)
    (new : HostPart) : Type 0 where
  pub result : Result HostReply HostFault
  pub took : IsPartTakeOf mark h (decoded e.came.bytes) result new
  pub refused : e.refused ≡ says_memory (HostTook result)
  pub sent : IsSentOf whole e.sent (datagrams_for mark new e.came.bytes result)

-- like `IsAnswered`, as a port records what is sent; the turn then goes on or ends
pub record IsExchange (result : Result (Unit {0}) TurnFault) (mark : List ℕ) (h : HostPart)
    (came : Datagram) (told_before told_after : Option (List Traffic)) (new : HostPart) :
    Type 0 where
  pub refused : Bool
  pub sent : List (List ℕ)
  pub answered : IsAnswered (is_whole result) mark h
      (record { came = came; refused = refused; sent = sent }) new
  pub memory : IsAnswerAfter (refused ∷ []) result
  pub told : Grows told_before told_after (sent_to came.peer sent)

-- like `IsExchange`, for every datagram from this peer that decodes to `read`
abbrev pub IsExchangeOf : (result : Result (Unit {0}) TurnFault) → (mark : List ℕ) → HostPart
    → (peer : ℕ) → (read : Result Message WireFault)
    → (told_before told_after : Option (List Traffic)) → (new : HostPart) → Type 0
IsExchangeOf result mark h peer read a b new =
    (bytes : List ℕ) → read ≡ decoded bytes
    → IsExchange result mark h (record { peer = peer; bytes = bytes }) a b new

-- all was sent for a datagram that others follow, as a port that fails ends the turn
abbrev pub is_whole_before : (whole : Bool) → (others : List Exchange) → Bool
is_whole_before whole [] = whole
is_whole_before whole (e ∷ es) = true

-- one datagram after another
abbrev pub AreAnswered : (whole : Bool) (mark : List ℕ) → HostPart → List Exchange → HostPart
    → Type 0
AreAnswered whole mark h [] new = new ≡ h
AreAnswered whole mark h (e ∷ es) new =
    (next : HostPart) × IsAnswered (is_whole_before whole es) mark h e next
    × AreAnswered whole mark next es new

-- The clock, and then datagrams, as many as a turn takes or until no more arrive. What the host had
-- heard of its viewers is `before`; after the turn it is `after`.
pub record IsHeardTurn (result : Result (Unit {0}) TurnFault) (mark : List ℕ) (clock : Option ℤ)
    (told_before told_after : Option (List Traffic)) (old new : HostPart)
    (before after : List ℕ) : Type 0 where
  pub refused : Bool
  pub begun : HostPart
  pub clocked : IsBegun old clock refused begun
  pub exchanges : List Exchange
  pub answered : AreAnswered (is_whole result) mark begun exchanges new
  pub heard : after ≡ all_heard mark (length old.kept) before exchanges
  pub memory : IsAnswerAfter (refused ∷ refusals_in exchanges) result
  pub most : length exchanges ≤ most_taken
  pub rest : List Traffic
  pub ended : IsEnd (is_ok result) (length exchanges) rest
  pub told : Grows told_before told_after (all_traffic exchanges ++ rest)

-- like `IsHeardTurn`, whatever the host hears
abbrev pub IsHostTurn : (result : Result (Unit {0}) TurnFault) → (mark : List ℕ)
    → (clock : Option ℤ) → (told_before told_after : Option (List Traffic)) → (old new : HostPart)
    → Type 0
IsHostTurn result mark clock a b old new =
    (before : List ℕ) × (after : List ℕ) × IsHeardTurn result mark clock a b old new before after
