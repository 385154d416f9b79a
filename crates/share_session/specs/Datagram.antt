-- The one datagram of a message of version 2 (our choice).
use Rattle.std.specs.Prelude.{ℕ, ◌++◌, ◌&&◌, ◌==◌, Bool, List, length, codes}
use Rattle.share_session.specs.declared.message.Body2.{Body2}
use Rattle.share_session.specs.declared.message.Body2.TheVariants.{Input, Offer, Ask, Ack, Floor, Piece}
use Rattle.share_session.specs.declared.message.Message2.{Message2}
use Rattle.share_session.specs.declared.message.Message2.TheVariants.{Said, Hello, Welcome}
use Rattle.share_session.specs.Fields.{head_codec, number_codec, input_codec, offer_codec, ask_codec, ack_codec, piece_codec, hello_codec, welcome_codec}

abbrev pub body_tag : Body2 → ℕ
body_tag (Input i) = 1
body_tag (Offer o) = 2
body_tag (Ask a) = 3
body_tag (Ack a) = 4
body_tag (Floor n) = 5
body_tag (Piece p) = 6

abbrev pub tag_of : Message2 → ℕ
tag_of (Said session body) = body_tag body
tag_of (Hello h) = 7
tag_of (Welcome w) = 8

abbrev pub body_text : Body2 → List ℕ
body_text (Input i) = input_codec.write i
body_text (Offer o) = offer_codec.write o
body_text (Ask a) = ask_codec.write a
body_text (Ack a) = ack_codec.write a
body_text (Floor n) = number_codec.write n
body_text (Piece p) = piece_codec.write p

-- what follows the tag: the session and a body, or a Hello or a Welcome, which have the mark
abbrev pub rest_text : Message2 → List ℕ
rest_text (Said session body) = session ++ body_text body
rest_text (Hello h) = hello_codec.write h
rest_text (Welcome w) = welcome_codec.write w

-- X3DS, version 2, the tag, and the rest
abbrev pub datagram : Message2 → List ℕ
datagram m = head_codec.write (codes "X3DS", (2, tag_of m)) ++ rest_text m

-- ---- the ranges

abbrev pub body_fits : Body2 → Bool
body_fits (Input i) = input_codec.fits i
body_fits (Offer o) = offer_codec.fits o
body_fits (Ask a) = ask_codec.fits a
body_fits (Ack a) = ack_codec.fits a
body_fits (Floor n) = number_codec.fits n
body_fits (Piece p) = piece_codec.fits p

-- a session has 16 bytes
abbrev pub message_fits : Message2 → Bool
message_fits (Said session body) = (length session == 16) && body_fits body
message_fits (Hello h) = hello_codec.fits h
message_fits (Welcome w) = welcome_codec.fits w
