-- A datagram is for the world of its message, whatever seal follows.
use Rattle.std.proofs.Common.{◌≡◌, ℕ, true, eqb, ltb, List, ◌∷◌, ◌++◌, length, Option, Some, Result, refl, ap, ◌∙◌, arith, append_assoc, length-append}
use Rattle.std.specs.Prelude.{◌&&◌, codes}
use Rattle.std.proofs.lemmas.Bool.{eqb-true, eq-eqb}
use Rattle.byte_codec.specs.Codec.{fixed}
use Rattle.byte_codec.proofs.Laws.{both, fixed_exact}
use Rattle.x3d_values.specs.Ranges.{is_viewer}
use Rattle.share_session.specs.declared.fault.DatagramFault.{DatagramFault}
use Rattle.share_session.specs.declared.message.Body2.{Body2}
use Rattle.share_session.specs.declared.message.Body2.TheVariants.{Input, Offer, Ask, Ack, Floor, Piece}
use Rattle.share_session.specs.declared.message.Hello.{Hello}
use Rattle.share_session.specs.declared.message.Message2.{Message2}
use Rattle.share_session.specs.declared.message.Message2.TheVariants as message
use Rattle.share_session.specs.Names.{is_name}
use Rattle.share_session.specs.Fields.{head_codec, seat_codec, name_codec, hello_codec}
use Rattle.share_session.specs.Datagram.{body_tag, tag_of, body_text, rest_text, datagram, message_fits, body_fits}
use Rattle.share_session.proofs.DatagramLaws.{datagram_again}
use Rattle.share_session.proofs.FieldLaws.{head_exact}
use Rattle.share_worlds.specs.Laws.{WorldsAreTold}
use Rattle.share_worlds.specs.Wanted.{by_head, by_tag, for_message, named, name_in, session_in, world_of}
use Rattle.share_worlds.specs.declared.wanted.For.TheVariants.{Session, Name}

-- ---- a Hello has 128 bytes

name_len : (h : Hello) → name_codec.fits h.name ≡ true → length (name_codec.write h.name) ≡ 65
unfolding name_codec
name_len h e =
    let a = both (is_name h.name.len h.name.bytes) _ e in
    let b = both (ltb h.name.len 256) (eqb (length h.name.bytes) 64) a.1 in
    omega (arith, eqb-true _ _ b.1)

hello_len : (h : Hello) → hello_codec.fits h ≡ true → length (hello_codec.write h) ≡ 122
unfolding hello_codec seat_codec
hello_len h e =
    let a = both (eqb (length h.mark) 32) _ e in
    let b = both (is_viewer h.who && ltb h.who 256) _ a.1 in
    let c = both (eqb (length h.cookie) 8) _ b.1 in
    let d = both (eqb (length h.nonce) 16) (name_codec.fits h.name) c.1 in
    let name = name_codec.write h.name in
    omega (
      arith,
      eqb-true _ _ a.0,
      eqb-true _ _ c.0,
      eqb-true _ _ d.0,
      name_len h d.1,
      length-append h.mark (h.who ∷ (h.cookie ++ (h.nonce ++ name))),
      length-append h.cookie (h.nonce ++ name),
      length-append h.nonce name,
    )

head_len : (tag : ℕ) → length (head_codec.write (codes "X3DS", (2, tag))) ≡ 6
unfolding head_codec
head_len tag = refl

datagram_len : (h : Hello) → hello_codec.fits h ≡ true → length (datagram (message.Hello h)) ≡ 128
datagram_len h e =
    length-append (head_codec.write (codes "X3DS", (2, 7))) (hello_codec.write h)
    ∙ omega (arith, head_len 7, hello_len h e)

-- ---- the head

tag_byte : (m : Message2) → ltb (tag_of m) 256 ≡ true
tag_byte (message.Said session (Input i)) = refl
tag_byte (message.Said session (Offer o)) = refl
tag_byte (message.Said session (Ask a)) = refl
tag_byte (message.Said session (Ack a)) = refl
tag_byte (message.Said session (Floor n)) = refl
tag_byte (message.Said session (Piece p)) = refl
tag_byte (message.Hello h) = refl
tag_byte (message.Welcome w) = refl

head_fits : (tag : ℕ) → ltb tag 256 ≡ true → head_codec.fits (codes "X3DS", (2, tag)) ≡ true
unfolding head_codec
head_fits tag small = small

abbrev HeadRead : Type 0
HeadRead = Option ((List ℕ × (ℕ × ℕ)) × List ℕ)

head_read : (m : Message2) (seal : List ℕ)
    → head_codec.read (datagram m ++ seal) ≡ Some ((codes "X3DS", (2, tag_of m)), rest_text m ++ seal)
head_read m seal =
    ap (λ (bytes : List ℕ). head_codec.read bytes) (append_assoc (head_codec.write (codes "X3DS", (2, tag_of m))) (rest_text m) seal)
    ∙ head_exact.again (codes "X3DS", (2, tag_of m)) (rest_text m ++ seal) (head_fits (tag_of m) (tag_byte m))

-- ---- what follows the tag

by_low : (b : Body2) (rest bytes : List ℕ) → by_tag (body_tag b) rest bytes ≡ session_in ((fixed 16).read rest)
by_low (Input i) rest bytes = refl
by_low (Offer o) rest bytes = refl
by_low (Ask a) rest bytes = refl
by_low (Ack a) rest bytes = refl
by_low (Floor n) rest bytes = refl
by_low (Piece p) rest bytes = refl

by_session : (session : List ℕ) (b : Body2) (seal : List ℕ) → eqb (length session) 16 ≡ true
    → session_in ((fixed 16).read (session ++ body_text b ++ seal)) ≡ Session session
by_session session b seal long =
    ap (λ (bytes : List ℕ). session_in ((fixed 16).read bytes)) (append_assoc session (body_text b) seal)
    ∙ ap (λ (read : Option (List ℕ × List ℕ)). session_in read) ((fixed_exact 16).again session (body_text b ++ seal) long)

by_name : (h : Hello) (seal : List ℕ) → hello_codec.fits h ≡ true
    → name_in ((fixed 128).read (datagram (message.Hello h) ++ seal)) ≡ Name h.name
by_name h seal fits =
    ap (λ (read : Option (List ℕ × List ℕ)). name_in read)
    ((fixed_exact 128).again (datagram (message.Hello h)) seal (eq-eqb _ 128 (datagram_len h fits)))
    ∙ ap (λ (read : Result Message2 DatagramFault). named read) (datagram_again (message.Hello h) fits)

rest_told : (m : Message2) (seal : List ℕ) → message_fits m ≡ true
    → by_tag (tag_of m) (rest_text m ++ seal) (datagram m ++ seal) ≡ for_message m
rest_told (message.Said session b) seal fits =
    let both_fit = both (eqb (length session) 16) (body_fits b) fits in
    by_low b (session ++ body_text b ++ seal) (datagram (message.Said session b) ++ seal) ∙ by_session session b seal both_fit.0
rest_told (message.Hello h) seal fits = by_name h seal fits
rest_told (message.Welcome w) seal fits = refl

pub worlds_are_told : WorldsAreTold
unfolding world_of
worlds_are_told m seal fits =
    ap (λ (read : HeadRead). by_head read (datagram m ++ seal)) (head_read m seal) ∙ rest_told m seal fits
