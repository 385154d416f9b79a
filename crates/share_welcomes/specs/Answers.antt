-- What a host sends for a datagram of version 1.
use Rattle.std.specs.Prelude.{ℕ, Bool, false, List, Option, None, Some, Result, Ok, Err, is_err, if◌then◌else◌}
use Rattle.std.specs.Option.{option_map}
use Rattle.share_wire.specs.Datagram.{datagram}
use Rattle.share_wire.specs.Decoding as one
use Rattle.share_wire.specs.declared.fault.WireFault.{WireFault}
use Rattle.share_wire.specs.declared.message.Body.{Body}
use Rattle.share_wire.specs.declared.message.Body.TheVariants as body
use Rattle.share_wire.specs.declared.message.Message.{Message}
use Rattle.share_wire.specs.Messages.{PieceView}
use Rattle.share_session.specs.Datagram as two_bytes
use Rattle.share_session.specs.Decoding as two
use Rattle.share_session.specs.Heard.{heard, lifted}
use Rattle.share_session.specs.Messages.{PieceView2}
use Rattle.share_session.specs.declared.message.Body2.{Body2}
use Rattle.share_session.specs.declared.message.Body2.TheVariants.{Input, Piece}
use Rattle.share_session.specs.declared.message.Message2.{Message2}
use Rattle.share_session.specs.declared.message.Message2.TheVariants.{Said}
use Rattle.share_welcomes.specs.declared.host_run.HostRun.{HostRun}
use Rattle.share_welcomes.specs.Coming as coming
use Rattle.share_welcomes.specs.Learned.{LearnedView, chain_at, input_at}

abbrev pub is_same : (bytes other : List ℕ) → Bool
is_same bytes other = coming.is_same bytes other

-- the piece, with the chain of its snapshot's world
abbrev pub chained : PieceView → (chain : List ℕ) → PieceView2
chained p chain =
    record {
      head = record {
        chain = chain;
        boot = p.boot;
        applied = p.applied;
        size = p.length;
        index = p.index;
      };
      bytes = p.bytes;
    }

abbrev pub piece_in_two : LearnedView → PieceView → Option PieceView2
piece_in_two l p = option_map (chained p) (chain_at l p.applied)

-- the body of version 2; an input is the one that is known, and a piece has the chain that is known
-- after its snapshot's inputs
abbrev pub body_in_two : LearnedView → Body → Option Body2
body_in_two l (body.Input s) = option_map Input (input_at l s.number)
body_in_two l (body.Offer o) = lifted (body.Offer o)
body_in_two l (body.Ask a) = lifted (body.Ask a)
body_in_two l (body.Ack a) = lifted (body.Ack a)
body_in_two l (body.Floor f) = lifted (body.Floor f)
body_in_two l (body.Piece p) = option_map Piece (piece_in_two l p)

-- a peer of the run hears what these bytes say in version 1
abbrev pub is_said : Option Message → (bytes : List ℕ) → Bool
is_said None bytes = false
is_said (Some m) bytes = is_same (datagram m) bytes

abbrev pub says : HostRun → Message2 → (bytes : List ℕ) → Bool
says r m bytes = is_said (heard r.session r.mark m) bytes

abbrev pub said : HostRun → (bytes : List ℕ) → Option Body2 → Option Message2
said r bytes None = None
said r bytes (Some body) =
    if says r (Said r.session body) bytes then Some (Said r.session body) else None

abbrev pub message_in_two : HostRun → LearnedView → (bytes : List ℕ) → Result Message WireFault
    → Option Message2
message_in_two r l bytes (Err fault) = None
message_in_two r l bytes (Ok m) = said r bytes (body_in_two l m.body)

-- the message of version 2 that says what these bytes say in version 1
abbrev pub in_two : HostRun → LearnedView → (bytes : List ℕ) → Option Message2
in_two r l bytes = message_in_two r l bytes (one.decoded bytes)

abbrev pub is_plain : (bytes : List ℕ) → Bool
is_plain bytes = is_err (two.decoded bytes)

abbrev pub plain : (bytes : List ℕ) → Option (List ℕ)
plain bytes = if is_plain bytes then Some bytes else None

-- what is sent for these bytes of version 1, to a peer of version 2 or not; nothing if the port
-- doesn't know an entry, or these aren't a datagram of version 1
abbrev pub sent_as : (is_two : Bool) → HostRun → LearnedView → (bytes : List ℕ) → Option (List ℕ)
sent_as is_two r l bytes =
    if is_two then option_map two_bytes.datagram (in_two r l bytes) else plain bytes
