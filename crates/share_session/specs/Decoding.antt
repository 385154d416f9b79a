-- The message of a datagram of version 2, or the first fault of the bytes (our choice). The checks
-- run in this order: fewer than 6 bytes or another magic, the version, the tag, the rest, which has
-- to be whole and in its ranges.
use Rattle.std.specs.Prelude.{ℕ, ◌&&◌, ◌==◌, List, Option, None, Some, Result, Err, nat_le, if◌then◌else◌, codes, nat_eq}
use Rattle.std.specs.Option.{ok_or, option_map}
use Rattle.std.specs.Cmp.Lexicographic.{pointwise}
use Rattle.byte_codec.specs.Codec.{Codec, ◌>>?◌, whole, fixed}
use Rattle.share_session.specs.declared.fault.DatagramFault.{DatagramFault}
use Rattle.share_session.specs.declared.fault.DatagramFault.TheVariants.{BadPacket, BadVersion, BadTag, BadBody}
use Rattle.share_session.specs.declared.message.Body2.{Body2}
use Rattle.share_session.specs.declared.message.Body2.TheVariants.{Input, Offer, Ask, Ack, Floor, Piece}
use Rattle.share_session.specs.declared.message.Message2.{Message2}
use Rattle.share_session.specs.declared.message.Message2.TheVariants.{Said, Hello, Welcome}
use Rattle.share_session.specs.Fields.{head_codec, number_codec, input_codec, offer_codec, ask_codec, ack_codec, piece_codec, hello_codec, welcome_codec}

-- the message or body of fields that take up all of the bytes
abbrev pub all_in : {A B : Type 0} → Codec A → (A → B) → List ℕ → Option B
all_in c make bytes = option_map make (whole (c.read bytes))

abbrev pub body_in : ℕ → List ℕ → Option Body2
body_in tag bytes =
    if tag == 1 then all_in input_codec Input bytes
    else if tag == 2 then all_in offer_codec Offer bytes
    else if tag == 3 then all_in ask_codec Ask bytes
    else if tag == 4 then all_in ack_codec Ack bytes
    else if tag == 5 then all_in number_codec Floor bytes
    else if tag == 6 then all_in piece_codec Piece bytes
    else None

-- the session, and then the body
abbrev pub said_with : List ℕ → Body2 → Option Message2
said_with session body = Some (Said session body)

abbrev pub said_in : ℕ → List ℕ → Option Message2
said_in tag bytes = (fixed 16).read bytes >>? λ s. body_in tag s.1 >>? said_with s.0

abbrev pub rest_in : ℕ → List ℕ → Result Message2 DatagramFault
rest_in tag bytes =
    if nat_le 1 tag && nat_le tag 6 then ok_or (said_in tag bytes) BadBody
    else if tag == 7 then ok_or (all_in hello_codec Hello bytes) BadBody
    else if tag == 8 then ok_or (all_in welcome_codec Welcome bytes) BadBody
    else Err BadTag

-- by the head: the magic, the version, and then the rest by the tag
abbrev pub headed : Option ((List ℕ × (ℕ × ℕ)) × List ℕ) → Result Message2 DatagramFault
headed None = Err BadPacket
headed (Some x) =
    if pointwise nat_eq x.0.0 (codes "X3DS") then
    (if x.0.1.0 == 2 then rest_in x.0.1.1 x.1 else Err BadVersion)
    else Err BadPacket

unfoldable pub decoded : List ℕ → Result Message2 DatagramFault
decoded bytes = headed (head_codec.read bytes)
