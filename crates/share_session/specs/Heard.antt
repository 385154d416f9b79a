-- What a world hears of a message of version 2.
use Rattle.std.specs.Prelude.{ℕ, Bool, false, List, Option, None, Some, nat_le, nat_eq, if◌then◌else◌}
use Rattle.std.specs.Option.{option_map}
use Rattle.std.specs.Cmp.Lexicographic.{pointwise}
use Rattle.x3d_values.specs.Ranges.{is_input_number, max_inputs}
use Rattle.x3d_values.specs.declared.stamped.Cause.{Cause}
use Rattle.x3d_values.specs.declared.stamped.Cause.TheVariants as cause
use Rattle.share_wire.specs.Messages.{is_next_number}
use Rattle.share_wire.specs.declared.message.Body.{Body}
use Rattle.share_wire.specs.declared.message.Body.TheVariants as body
use Rattle.share_wire.specs.declared.message.Message.{Message}
use Rattle.share_entries.specs.declared.entry.Source.{Source}
use Rattle.share_entries.specs.declared.entry.Source.TheVariants as source
use Rattle.share_session.specs.declared.message.Body2.{Body2}
use Rattle.share_session.specs.declared.message.Body2.TheVariants.{Input, Offer, Ask, Ack, Floor, Piece}
use Rattle.share_session.specs.declared.message.Message2.{Message2}
use Rattle.share_session.specs.declared.message.Message2.TheVariants.{Said, Hello, Welcome}

abbrev pub cause_of : Source → Cause
cause_of source.Clock = cause.Clock
cause_of (source.Offer o) = cause.Pointer o.pointer

-- the body as in version 1, if its numbers are within a world's limits
abbrev pub as_body : Body2 → Option Body
as_body (Input i) =
    if is_input_number i.number
    then Some (body.Input (record {
      number = i.number;
      time = i.entry.time;
      cause = cause_of i.entry.source;
    }))
    else None
as_body (Offer o) = Some (body.Offer o)
as_body (Ask a) =
    if is_next_number a.next then Some (body.Ask (record { who = a.who; next = a.next })) else None
as_body (Ack a) = Some (body.Ack a)
as_body (Floor n) = if is_next_number n then Some (body.Floor n) else None
as_body (Piece p) =
    if nat_le p.head.applied max_inputs
    then Some (body.Piece (record {
      boot = p.head.boot;
      applied = p.head.applied;
      length = p.head.size;
      index = p.head.index;
      bytes = p.bytes;
    }))
    else None

-- the body of version 2; an input or a piece needs a chain
abbrev pub lifted : Body → Option Body2
lifted (body.Input s) = None
lifted (body.Offer o) = Some (Offer o)
lifted (body.Ask a) = Some (Ask (record { who = a.who; next = a.next }))
lifted (body.Ack a) = Some (Ack a)
lifted (body.Floor n) = Some (Floor n)
lifted (body.Piece p) = None

abbrev pub marked : List ℕ → Body → Message
marked mark body = record { mark = mark; body = body }

-- the message as in version 1; a Hello or a Welcome is not one
abbrev pub as_message : List ℕ → Message2 → Option Message
as_message mark (Said session body) = option_map (marked mark) (as_body body)
as_message mark (Hello h) = None
as_message mark (Welcome w) = None

-- whether a message was said in this session
abbrev pub is_of : List ℕ → Message2 → Bool
is_of session (Said other body) = pointwise nat_eq other session
is_of session (Hello h) = false
is_of session (Welcome w) = false

-- what a peer of a session and a scene hears of a message
abbrev pub heard : (session mark : List ℕ) → Message2 → Option Message
heard session mark m = if is_of session m then as_message mark m else None
