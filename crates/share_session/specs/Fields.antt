-- The body of each message of version 2 as a codec, in the order of its bytes (our choice).
use Rattle.std.specs.Prelude.{ℕ, List}
use Rattle.std.specs.Int.{w32, w64}
use Rattle.byte_codec.specs.Codec.{Codec, pair, depends, named, checked, byte, truth, number, fixed}
use Rattle.x3d_values.specs.Ranges.{is_viewer}
use Rattle.share_wire.specs.Messages.{OfferView, AckView, piece_size}
use Rattle.share_wire.specs.Fields.{vector}
use Rattle.share_wire.specs.Datagram.{offering_fits}
use Rattle.share_entries.specs.Entry.{entry_codec, fields_of, offer_with}
use Rattle.share_entries.specs.Head.{is_viewer_count}
use Rattle.share_entries.specs.declared.fields.OfferFields.{OfferFields}
use Rattle.share_session.specs.declared.message.Input2.{Input2}
use Rattle.share_session.specs.declared.message.Ask2.{Ask2}
use Rattle.share_session.specs.declared.piece.PieceHead.{PieceHead}
use Rattle.share_session.specs.declared.message.Hello.{Hello}
use Rattle.share_session.specs.declared.message.Welcome.{Welcome}
use Rattle.share_session.specs.Ranges.{is_number, is_head}
use Rattle.share_session.specs.Names.{NameView, is_name}
use Rattle.share_session.specs.Messages.{PieceView2}

-- the four bytes X3DS, the version, the tag
unfoldable pub head_codec : Codec (List ℕ × (ℕ × ℕ))
head_codec = pair (fixed 4) (pair byte byte)

unfoldable pub number_codec : Codec ℕ
number_codec = checked is_number (number w64)

unfoldable pub seat_codec : Codec ℕ
seat_codec = checked is_viewer byte

-- the chain before the input, its number, and its entry as a log has it
unfoldable pub input_codec : Codec Input2
input_codec = named (λ t. record { chain = t.0; number = t.1.0; entry = t.1.1 })
    (λ i. (i.chain, (i.number, i.entry)))
    (pair (fixed 16) (pair number_codec entry_codec))

-- ---- offers

-- who, boot, offer, down, origin, direction; no range is checked here
unfoldable pub offer_parts : Codec OfferFields
offer_parts = named
    (λ t. record {
      who = t.0;
      boot = t.1.0;
      number = t.1.1.0;
      down = t.1.1.1.0;
      origin = t.1.1.1.1.0;
      dir = t.1.1.1.1.1;
    })
    (λ f. (f.who, (f.boot, (f.number, (f.down, (f.origin, f.dir))))))
    (pair byte (pair (number w32) (pair (number w32) (pair truth (pair vector vector)))))

unfoldable pub offer_codec : Codec OfferView
offer_codec = named offer_with fields_of
    (checked (λ f. offering_fits (offer_with f)) offer_parts)

-- ---- asks, acks, pieces

-- who, next
unfoldable pub ask_codec : Codec Ask2
ask_codec = named (λ t. record { who = t.0; next = t.1 }) (λ a. (a.who, a.next))
    (pair seat_codec number_codec)

-- who, boot, count
unfoldable pub ack_codec : Codec AckView
ack_codec = named (λ t. record { who = t.0; boot = t.1.0; count = t.1.1 })
    (λ a. (a.who, (a.boot, a.count)))
    (pair seat_codec (pair (number w32) (number w32)))

-- chain, boot, applied, length, index; no range is checked here
unfoldable pub piece_parts : Codec PieceHead
piece_parts = named
    (λ t. record {
      chain = t.0;
      boot = t.1.0;
      applied = t.1.1.0;
      size = t.1.1.1.0;
      index = t.1.1.1.1;
    })
    (λ h. (h.chain, (h.boot, (h.applied, (h.size, h.index)))))
    (pair (fixed 16) (pair (number w32) (pair (number w64) (pair (number w32) (number w32)))))

unfoldable pub piece_heads : Codec PieceHead
piece_heads = checked is_head piece_parts

-- the head, and as many bytes as it requires
unfoldable pub piece_codec : Codec PieceView2
piece_codec = named (λ t. record { head = t.0; bytes = t.1 }) (λ p. (p.head, p.bytes))
    (depends piece_heads (λ h. fixed (piece_size h.size h.index)))

-- ---- hellos and welcomes

-- the length of the name, and its bytes with zeros after them
unfoldable pub name_codec : Codec NameView
name_codec = checked (λ n. is_name n.len n.bytes)
    (named (λ t. record { len = t.0; bytes = t.1 }) (λ n. (n.len, n.bytes)) (pair byte (fixed 64)))

-- mark, who, cookie, nonce, name
unfoldable pub hello_codec : Codec Hello
hello_codec = named
    (λ t. record {
      mark = t.0;
      who = t.1.0;
      cookie = t.1.1.0;
      nonce = t.1.1.1.0;
      name = t.1.1.1.1;
    })
    (λ h. (h.mark, (h.who, (h.cookie, (h.nonce, h.name)))))
    (pair (fixed 32) (pair seat_codec (pair (fixed 8) (pair (fixed 16) name_codec))))

unfoldable pub count_codec : Codec ℕ
count_codec = checked is_viewer_count byte

-- mark, who, cookie, nonce, run, viewers, kept boot
unfoldable pub welcome_codec : Codec Welcome
welcome_codec = named
    (λ t. record {
      mark = t.0;
      who = t.1.0;
      cookie = t.1.1.0;
      nonce = t.1.1.1.0;
      run = t.1.1.1.1.0;
      viewers = t.1.1.1.1.1.0;
      kept = t.1.1.1.1.1.1;
    })
    (λ w. (w.mark, (w.who, (w.cookie, (w.nonce, (w.run, (w.viewers, w.kept)))))))
    (pair (fixed 32)
    (pair seat_codec
    (pair (fixed 8) (pair (fixed 16) (pair (fixed 16) (pair count_codec (number w32)))))))
