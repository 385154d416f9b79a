-- Inputs beyond the last one that a viewer takes, and snapshots with more inputs applied.
use Rattle.std.specs.Prelude.{ℕ, Bool, false, nat_lt, List, length, Option, Some, None, Result, Ok, Err, if◌then◌else◌}
use Rattle.share_wire.specs.Decoding.{decoded}
use Rattle.share_wire.specs.declared.fault.WireFault.{WireFault}
use Rattle.share_wire.specs.declared.message.Body.{Body}
use Rattle.share_wire.specs.declared.message.Body.TheVariants.{Input, Offer, Ask, Ack, Floor, Piece}
use Rattle.share_wire.specs.declared.message.Message.{Message}

abbrev pub body_is_beyond : (last : ℕ) → Body → Bool
body_is_beyond last (Input s) = nat_lt last s.number
body_is_beyond last (Offer o) = false
body_is_beyond last (Ask a) = false
body_is_beyond last (Ack a) = false
body_is_beyond last (Floor f) = false
body_is_beyond last (Piece p) = nat_lt last p.applied

-- the datagram has an input whose number is above the last one, or a piece of a snapshot with more
-- inputs applied
abbrev pub is_beyond : (last : ℕ) → Result Message WireFault → Bool
is_beyond last (Ok message) = body_is_beyond last message.body
is_beyond last (Err fault) = false

-- how many bytes of a datagram are received: none if it is beyond the last input, if there is one
abbrev pub count_of : (last : Option ℕ) → List ℕ → ℕ
count_of None bytes = length bytes
count_of (Some last) bytes = if is_beyond last (decoded bytes) then 0 else length bytes
