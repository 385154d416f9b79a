-- The viewer that a datagram of version 2 says it is of is the one that its message is of.
use Rattle.std.proofs.Common.{◌≡◌, ℕ, true, List, [], ◌∷◌, ◌++◌, length, Option, Some, None, refl, sym, ap, ◌∙◌, eqb, nat_lt, cond}
use Rattle.std.specs.Prelude.{slice_get, ◌&&◌}
use Rattle.std.proofs.lemmas.Bool.{eqb-true}
use Rattle.byte_codec.specs.Codec.{◌>>?◌}
use Rattle.byte_codec.proofs.Laws.{both, fixed_exact}
use Rattle.share_keys.specs.Claims.{claimed, claimed_after, claimed_behind, is_head, seat_at, seat_of}
use Rattle.x3d_values.specs.Pointing.{is_ray}
use Rattle.x3d_values.specs.Ranges.{is_viewer}
use Rattle.share_wire.specs.Datagram.{offering_fits, pointer_fits}
use Rattle.share_wire.specs.Messages.{is_ordinal}
use Rattle.share_entries.specs.Entry.{fields_of, offer_with}
use Rattle.share_session.specs.Datagram.{body_fits, body_tag, body_text, rest_text}
use Rattle.share_session.specs.Fields.{head_codec, hello_codec, seat_codec, ask_codec, number_codec, offer_codec, offer_parts}
use Rattle.share_session.specs.declared.message.Body2.{Body2}
use Rattle.share_session.specs.declared.message.Body2.TheVariants.{Input, Offer, Ask, Ack, Floor, Piece}
use Rattle.share_session.specs.declared.message.Message2.TheVariants.{Said, Hello, Welcome}
use Rattle.share_sealed.specs.Laws.{SendersAreClaimed, sayer_of}

-- the head is passed
headed : (tag : ℕ) (rest : List ℕ) → claimed (88 ∷ 51 ∷ 68 ∷ 83 ∷ 2 ∷ tag ∷ rest) ≡ claimed_after tag rest
headed tag rest =
    let front : List ℕ = 88 ∷ 51 ∷ 68 ∷ 83 ∷ 2 ∷ [] in
    ap (λ (o : Option (List ℕ × List ℕ)). o >>? λ f. cond (is_head f.0) (claimed_behind f.1) None) ((fixed_exact 5).again front (tag ∷ rest) refl)

at_front : (front : List ℕ) (who : ℕ) (rest : List ℕ) → slice_get (front ++ who ∷ rest) (length front) ≡ Some who
at_front [] who rest = refl
at_front (x ∷ xs) who rest = at_front xs who rest

seat_found : (front : List ℕ) (who n : ℕ) (rest : List ℕ) → length front ≡ n → nat_lt who 64 ≡ true → seat_at (front ++ who ∷ rest) n ≡ Some who
seat_found front who n rest len small =
    let is : seat_of who ≡ Some who = rw small refl in
    ap (λ (k : ℕ). seat_at (front ++ who ∷ rest) k) (sym len)
    ∙ ap (λ (o : Option ℕ). o >>? seat_of) (at_front front who rest)
    ∙ is

said : (session : List ℕ) (body : Body2) → length session ≡ 16 → body_fits body ≡ true → claimed_after (body_tag body) (session ++ body_text body) ≡ sayer_of body
unfolding ask_codec offer_codec offer_parts seat_codec
said session (Input i) len fits = refl
said session (Offer o) len fits =
    let parts = both (offering_fits (offer_with (fields_of o))) (offer_parts.fits (fields_of o)) fits in
    let pointed = both (is_ordinal o.boot && is_ordinal o.number) (pointer_fits o.pointer) parts.0 in
    let seat = both (is_viewer o.pointer.who) (is_ray o.pointer.ray) pointed.1 in
    seat_found session o.pointer.who 16 _ len seat.0
said session (Ask a) len fits =
    let parts = both (is_viewer a.who && nat_lt a.who 256) (number_codec.fits a.next) fits in
    let seat = both (is_viewer a.who) (nat_lt a.who 256) parts.0 in
    seat_found session a.who 16 _ len seat.0
said session (Ack a) len fits = refl
said session (Floor n) len fits = refl
said session (Piece p) len fits = refl

pub senders_are_claimed : SendersAreClaimed
unfolding head_codec hello_codec seat_codec
senders_are_claimed (Said session body) fits =
    let parts = both (eqb (length session) 16) (body_fits body) fits in
    headed (body_tag body) (session ++ body_text body) ∙ said session body (eqb-true (length session) 16 parts.0) parts.1
senders_are_claimed (Hello h) fits =
    let parts = both (eqb (length h.mark) 32) _ fits in
    let seated = both (is_viewer h.who && nat_lt h.who 256) _ parts.1 in
    let seat = both (is_viewer h.who) (nat_lt h.who 256) seated.0 in
    headed 7 (hello_codec.write h) ∙ seat_found h.mark h.who 32 _ (eqb-true (length h.mark) 32 parts.0) seat.0
senders_are_claimed (Welcome w) fits = headed 8 (rest_text (Welcome w))
