-- The codec of each message is exact.
use Rattle.std.proofs.Common.{ℕ, Bool, List, refl}
use Rattle.std.specs.Int.{w32, w64}
use Rattle.byte_codec.specs.Codec.{fixed}
use Rattle.byte_codec.specs.Exact.{IsExact}
use Rattle.byte_codec.proofs.Laws.{byte_exact, fixed_exact, number_exact, wide32, wide64, truth_exact, pair_exact, depends_exact, named_exact, checked_exact}
use Rattle.x3d_values.specs.Ranges.{is_viewer}
use Rattle.x3d_values.specs.declared.vector.Vec3.{Vec3}
use Rattle.share_wire.specs.Messages.{AckView, piece_size}
use Rattle.share_wire.proofs.FieldLaws.{vector_exact}
use Rattle.share_entries.specs.Entry.{EntryView, fields_of, offer_with}
use Rattle.share_entries.specs.Head.{is_viewer_count}
use Rattle.share_entries.specs.declared.fields.OfferFields.{OfferFields}
use Rattle.share_entries.proofs.EntryLaws.{entry_exact}
use Rattle.share_session.specs.declared.message.Input2.{Input2}
use Rattle.share_session.specs.declared.message.Ask2.{Ask2}
use Rattle.share_session.specs.declared.message.Hello.{Hello}
use Rattle.share_session.specs.declared.message.Welcome.{Welcome}
use Rattle.share_session.specs.declared.piece.PieceHead.{PieceHead}
use Rattle.share_session.specs.Ranges.{is_number, is_head}
use Rattle.share_session.specs.Names.{NameView, is_name}
use Rattle.share_session.specs.Messages.{PieceView2}
use Rattle.share_session.specs.Fields.{head_codec, number_codec, seat_codec, input_codec, offer_parts, offer_codec, ask_codec, ack_codec, piece_parts, piece_heads, piece_codec, name_codec, hello_codec, count_codec, welcome_codec}

pub head_exact : IsExact head_codec
unfolding head_codec
head_exact = pair_exact _ _ (fixed_exact 4) (pair_exact _ _ byte_exact byte_exact)

pub input_number_exact : IsExact number_codec
unfolding number_codec
input_number_exact = checked_exact is_number _ (number_exact w64 wide64)

pub seat_exact : IsExact seat_codec
unfolding seat_codec
seat_exact = checked_exact is_viewer _ byte_exact

pub input_exact : IsExact input_codec
unfolding input_codec
input_exact = named_exact (λ (t : List ℕ × (ℕ × EntryView)). let i : Input2 = record { chain = t.0; number = t.1.0; entry = t.1.1 } in i) (λ i. (i.chain, (i.number, i.entry))) _ (λ a. refl) (λ b. refl)
    (pair_exact _ _ (fixed_exact 16) (pair_exact _ _ input_number_exact entry_exact))

parts_exact : IsExact offer_parts
unfolding offer_parts
parts_exact = named_exact
    (λ (t : ℕ × (ℕ × (ℕ × (Bool × (Vec3 × Vec3))))). let p : OfferFields = record { who = t.0; boot = t.1.0; number = t.1.1.0; down = t.1.1.1.0; origin = t.1.1.1.1.0; dir = t.1.1.1.1.1 } in p)
    (λ p. (p.who, (p.boot, (p.number, (p.down, (p.origin, p.dir)))))) _ (λ a. refl) (λ b. refl)
    (pair_exact _ _ byte_exact (pair_exact _ _ (number_exact w32 wide32) (pair_exact _ _ (number_exact w32 wide32) (pair_exact _ _ truth_exact (pair_exact _ _ vector_exact vector_exact)))))

pub offer_exact : IsExact offer_codec
unfolding offer_codec
offer_exact = named_exact offer_with fields_of _ (λ a. refl) (λ b. refl) (checked_exact _ offer_parts parts_exact)

pub ask_exact : IsExact ask_codec
unfolding ask_codec
ask_exact = named_exact (λ (t : ℕ × ℕ). let a : Ask2 = record { who = t.0; next = t.1 } in a) (λ a. (a.who, a.next)) _ (λ a. refl) (λ b. refl) (pair_exact _ _ seat_exact input_number_exact)

pub ack_exact : IsExact ack_codec
unfolding ack_codec
ack_exact = named_exact (λ (t : ℕ × (ℕ × ℕ)). let a : AckView = record { who = t.0; boot = t.1.0; count = t.1.1 } in a) (λ a. (a.who, (a.boot, a.count))) _ (λ a. refl) (λ b. refl) (pair_exact _ _ seat_exact (pair_exact _ _ (number_exact w32 wide32) (number_exact w32 wide32)))

heads_exact : IsExact piece_heads
unfolding piece_heads piece_parts
heads_exact = checked_exact is_head _ (named_exact
    (λ (t : List ℕ × (ℕ × (ℕ × (ℕ × ℕ)))). let h : PieceHead = record { chain = t.0; boot = t.1.0; applied = t.1.1.0; size = t.1.1.1.0; index = t.1.1.1.1 } in h)
    (λ h. (h.chain, (h.boot, (h.applied, (h.size, h.index))))) _ (λ a. refl) (λ b. refl)
    (pair_exact _ _ (fixed_exact 16) (pair_exact _ _ (number_exact w32 wide32) (pair_exact _ _ (number_exact w64 wide64) (pair_exact _ _ (number_exact w32 wide32) (number_exact w32 wide32))))))

pub piece_exact : IsExact piece_codec
unfolding piece_codec
piece_exact = named_exact (λ (t : PieceHead × List ℕ). let p : PieceView2 = record { head = t.0; bytes = t.1 } in p) (λ p. (p.head, p.bytes)) _ (λ a. refl) (λ b. refl)
    (depends_exact piece_heads (λ h. fixed (piece_size h.size h.index)) heads_exact (λ h. fixed_exact (piece_size h.size h.index)))

name_exact : IsExact name_codec
unfolding name_codec
name_exact = checked_exact (λ (n : NameView). is_name n.len n.bytes) _ (named_exact (λ (t : ℕ × List ℕ). let n : NameView = record { len = t.0; bytes = t.1 } in n) (λ n. (n.len, n.bytes)) _ (λ a. refl) (λ b. refl) (pair_exact _ _ byte_exact (fixed_exact 64)))

pub hello_exact : IsExact hello_codec
unfolding hello_codec
hello_exact = named_exact
    (λ (t : List ℕ × (ℕ × (List ℕ × (List ℕ × NameView)))). let h : Hello = record { mark = t.0; who = t.1.0; cookie = t.1.1.0; nonce = t.1.1.1.0; name = t.1.1.1.1 } in h)
    (λ h. (h.mark, (h.who, (h.cookie, (h.nonce, h.name))))) _ (λ a. refl) (λ b. refl)
    (pair_exact _ _ (fixed_exact 32) (pair_exact _ _ seat_exact (pair_exact _ _ (fixed_exact 8) (pair_exact _ _ (fixed_exact 16) name_exact))))

count_exact : IsExact count_codec
unfolding count_codec
count_exact = checked_exact is_viewer_count _ byte_exact

pub welcome_exact : IsExact welcome_codec
unfolding welcome_codec
welcome_exact = named_exact
    (λ (t : List ℕ × (ℕ × (List ℕ × (List ℕ × (List ℕ × (ℕ × ℕ)))))). let w : Welcome = record { mark = t.0; who = t.1.0; cookie = t.1.1.0; nonce = t.1.1.1.0; run = t.1.1.1.1.0; viewers = t.1.1.1.1.1.0; kept = t.1.1.1.1.1.1 } in w)
    (λ w. (w.mark, (w.who, (w.cookie, (w.nonce, (w.run, (w.viewers, w.kept))))))) _ (λ a. refl) (λ b. refl)
    (pair_exact _ _ (fixed_exact 32) (pair_exact _ _ seat_exact (pair_exact _ _ (fixed_exact 8) (pair_exact _ _ (fixed_exact 16) (pair_exact _ _ (fixed_exact 16) (pair_exact _ _ count_exact (number_exact w32 wide32)))))))
