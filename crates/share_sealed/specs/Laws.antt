-- What holds of datagrams of version 2.
use Rattle.std.specs.Prelude.{◌≡◌, ℕ, true, Option, None, Some}
use Rattle.share_keys.specs.Claims.{claimed}
use Rattle.share_session.specs.Datagram.{datagram, message_fits}
use Rattle.share_session.specs.declared.message.Body2.{Body2}
use Rattle.share_session.specs.declared.message.Body2.TheVariants.{Input, Offer, Ask}
use Rattle.share_session.specs.declared.message.Body2.TheVariants.{Ack, Floor, Piece}
use Rattle.share_session.specs.declared.message.Message2.{Message2}
use Rattle.share_session.specs.declared.message.Message2.TheVariants.{Said, Hello, Welcome}

-- the viewer that says a body to a host
abbrev pub sayer_of : Body2 → Option ℕ
sayer_of (Input i) = None
sayer_of (Offer o) = Some o.pointer.who
sayer_of (Ask a) = Some a.who
sayer_of (Ack a) = None
sayer_of (Floor n) = None
sayer_of (Piece p) = None

-- the viewer that sends a message to a host
abbrev pub sender_of : Message2 → Option ℕ
sender_of (Said session body) = sayer_of body
sender_of (Hello h) = Some h.who
sender_of (Welcome w) = None

-- the viewer that a datagram says it is of is the one that its message is of
abbrev pub SendersAreClaimed : Type 0
SendersAreClaimed =
    (m : Message2) → message_fits m ≡ true → claimed (datagram m) ≡ sender_of m
