-- What a datagram says of joining (our choice): a seat that asks for input 1 joins, and one that
-- asks for a later input goes on; a floor says from which input on the host has them.
use Rattle.std.specs.Prelude.{ℕ, ◌==◌, Bool, List, Result, Ok, Err, nat_eq, if◌then◌else◌}
use Rattle.std.specs.Cmp.Lexicographic.{pointwise}
use Rattle.share_wire.specs.Messages.{AskView}
use Rattle.share_wire.specs.declared.fault.WireFault.{WireFault}
use Rattle.share_wire.specs.declared.message.Body.{Body}
use Rattle.share_wire.specs.declared.message.Body.TheVariants.{Input, Offer, Ask, Ack, Floor, Piece}
use Rattle.share_wire.specs.declared.message.Message.{Message}
use Rattle.share_keeping.specs.declared.said.Said.{Said}
use Rattle.share_keeping.specs.declared.said.Said.TheVariants.{Joins, GoesOn, HasFrom, Nothing}

abbrev pub is_same : (mark other : List ℕ) → Bool
is_same mark other = pointwise nat_eq mark other

abbrev pub asked : AskView → Said
asked a = if a.next == 1 then Joins a.who else GoesOn a.who

abbrev pub said_by : Body → Said
said_by (Input s) = Nothing
said_by (Offer o) = Nothing
said_by (Ask a) = asked a
said_by (Ack a) = Nothing
said_by (Floor f) = HasFrom f
said_by (Piece p) = Nothing

-- what a datagram says in the scene with this mark, given the message that it is, or the fault
abbrev pub said_in : (mark : List ℕ) → Result Message WireFault → Said
said_in mark (Ok m) = if is_same m.mark mark then said_by m.body else Nothing
said_in mark (Err fault) = Nothing
