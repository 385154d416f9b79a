-- Offers and pieces in their ranges have bytes.
use Rattle.std.proofs.Common.{◌≡◌, ◌^◌, true, ltb, length, eq-eqb}
use Rattle.std.specs.Prelude.{◌&&◌, not}
use Rattle.byte_codec.proofs.Laws.{both, and_true}
use Rattle.x3d_values.specs.Ranges.{coordinates_fit, is_zero, is_viewer}
use Rattle.x3d_values.specs.Pointing.{is_ray}
use Rattle.share_wire.specs.Messages.{OfferView, is_ordinal, piece_size}
use Rattle.share_wire.specs.Datagram.{body_fits, offering_fits, pointer_fits}
use Rattle.share_wire.specs.declared.message.Body.TheVariants as body
use Rattle.share_wire.proofs.FieldLaws.{vector-signed, viewer-byte}
use Rattle.share_session.specs.Ranges.{is_head}
use Rattle.share_session.specs.Messages.{PieceView2}
use Rattle.share_session.specs.Fields.{offer_parts, offer_codec, piece_parts, piece_heads, piece_codec}

pub offer_fits : (o : OfferView) → body_fits (body.Offer o) ≡ true → offer_codec.fits o ≡ true
unfolding offer_codec offer_parts
offer_fits o e =
    let p = o.pointer in
    let a = both (offering_fits o) (ltb o.boot (2 ^ 32) && ltb o.number (2 ^ 32)) e in
    let w = both (ltb o.boot (2 ^ 32)) (ltb o.number (2 ^ 32)) a.1 in
    let b = both (is_ordinal o.boot && is_ordinal o.number) (pointer_fits p) a.0 in
    let c = both (is_viewer p.who) (is_ray p.ray) b.1 in
    let d = both (coordinates_fit p.ray.origin) (coordinates_fit p.ray.dir && not (is_zero p.ray.dir)) c.1 in
    let f = both (coordinates_fit p.ray.dir) (not (is_zero p.ray.dir)) d.1 in
    and_true _ _ a.0 (and_true _ _ (viewer-byte p.who c.0) (and_true _ _ w.0 (and_true _ _ w.1 (and_true _ _ (vector-signed p.ray.origin d.0) (vector-signed p.ray.dir f.0)))))

pub piece_fits : (p : PieceView2) → is_head p.head ≡ true → piece_parts.fits p.head ≡ true → length p.bytes ≡ piece_size p.head.size p.head.index → piece_codec.fits p ≡ true
unfolding piece_codec piece_heads
piece_fits p head parts size =
    and_true _ _ (and_true _ _ head parts) (eq-eqb (length p.bytes) (piece_size p.head.size p.head.index) size)
