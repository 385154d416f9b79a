-- What a datagram is to a guard.
use Rattle.std.specs.Prelude.{Option, None, Some, Result, Ok, Err}
use Rattle.share_session.specs.declared.fault.DatagramFault.{DatagramFault}
use Rattle.share_session.specs.declared.message.Body2.{Body2}
use Rattle.share_session.specs.declared.message.Body2.TheVariants as body
use Rattle.share_session.specs.declared.message.Hello.{Hello}
use Rattle.share_session.specs.declared.message.Welcome.{Welcome}
use Rattle.share_session.specs.declared.message.Message2.{Message2}
use Rattle.share_session.specs.declared.message.Message2.TheVariants as message
use Rattle.share_guards.specs.declared.kind.Kind.{Kind}
use Rattle.share_guards.specs.declared.kind.Kind.TheVariants.{Greets, Asks, Offers, Strange}

abbrev pub greeting : Hello → Kind
greeting h = Greets h.who h.cookie

-- only offers and asks are of a seat
abbrev pub kind_of_body : Body2 → Kind
kind_of_body (body.Input i) = Strange
kind_of_body (body.Offer o) = Offers o.pointer.who
kind_of_body (body.Ask a) = Asks a.who
kind_of_body (body.Ack a) = Strange
kind_of_body (body.Floor n) = Strange
kind_of_body (body.Piece p) = Strange

abbrev pub kind_of_message : Message2 → Kind
kind_of_message (message.Said session b) = kind_of_body b
kind_of_message (message.Hello h) = greeting h
kind_of_message (message.Welcome w) = Strange

-- by what the bytes are decoded to
abbrev pub kind_in : Result Message2 DatagramFault → Kind
kind_in (Ok m) = kind_of_message m
kind_in (Err fault) = Strange

abbrev pub welcome_from : Message2 → Option Welcome
welcome_from (message.Said session b) = None
welcome_from (message.Hello h) = None
welcome_from (message.Welcome w) = Some w

-- the Welcome that the bytes are decoded to, if they are
abbrev pub welcome_in : Result Message2 DatagramFault → Option Welcome
welcome_in (Ok m) = welcome_from m
welcome_in (Err fault) = None
