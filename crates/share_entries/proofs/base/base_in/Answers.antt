use Rattle.std.proofs.Common.{◌≡◌, ℕ, eqb, true, false, None, Some, length, sym, ap, subst, ◌∙◌, rules}
use Rattle.std.specs.Prelude.{◌&&◌, IsTrue}
use Rattle.byte_codec.specs.Codec.{byte, many_at}
use Rattle.byte_codec.proofs.Laws.{both}
use Rattle.share_entries.specs.Head.{is_viewer_count}
use Rattle.share_entries.specs.Base.{BaseView, seat_codec}
use Rattle.share_entries.proofs.BaseLaws.{ends_codec, some, no_kind, no_count, other_kind, no_seats, no_ends, unsealed, sealed}
use Rattle.share_entries.proofs.base.base_in.Goals as goal

pub returns-in_default : goal.returns-in_default
returns-in_default c =
    let none : byte.read c.args.bytes.now ≡ None = search rules in
    sym (no_kind c.args.bytes.now none)

pub returns-in_default-byte_of : goal.returns-in_default-byte_of
returns-in_default-byte_of c =
    let kind : byte.read c.args.bytes.now ≡ Some (c.in-Some.kind, c.in-Some.rest.now) = search rules in
    let none : byte.read c.in-Some.rest.now ≡ None = search rules in
    sym (no_count c.args.bytes.now c.in-Some.rest.now c.in-Some.kind kind none)

pub returns-then-not-begins : goal.returns-then-not-begins
returns-then-not-begins c =
    let kind : byte.read c.args.bytes.now ≡ Some (c.in-Some.kind, c.in-Some.rest.now) = search rules in
    let n = c.in-Some-byte_of.viewers in
    let counted : byte.read c.in-Some.rest.now ≡ Some (n, c.in-Some-byte_of.rest.now) = search rules in
    let other : (eqb c.in-Some.kind 1 && is_viewer_count n) ≡ false = sym c.begins.ensures ∙ c.if-not-begins.true in
    sym (other_kind c.args.bytes.now c.in-Some.rest.now c.in-Some.kind kind n c.in-Some-byte_of.rest.now counted other)

pub returns-in_default-seats_of : goal.returns-in_default-seats_of
returns-in_default-seats_of c =
    let kind : byte.read c.args.bytes.now ≡ Some (c.in-Some.kind, c.in-Some.rest.now) = search rules in
    let n = c.in-Some-byte_of.viewers in
    let rest = c.in-Some-byte_of.rest.now in
    let counted : byte.read c.in-Some.rest.now ≡ Some (n, rest) = search rules in
    let none : many_at seat_codec n rest ≡ None = search rules in
    sym (no_seats c.args.bytes.now c.in-Some.rest.now c.in-Some.kind kind n rest counted none)

pub returns-in_default-ends_of : goal.returns-in_default-ends_of
returns-in_default-ends_of c =
    let kind : byte.read c.args.bytes.now ≡ Some (c.in-Some.kind, c.in-Some.rest.now) = search rules in
    let n = c.in-Some-byte_of.viewers in
    let rest = c.in-Some-byte_of.rest.now in
    let counted : byte.read c.in-Some.rest.now ≡ Some (n, rest) = search rules in
    let kept = c.in-Some-seats_of.kept.items in
    let after = c.in-Some-seats_of.rest.now in
    let seated : many_at seat_codec n rest ≡ Some (kept, after) = search rules in
    let none : ends_codec.read after ≡ None = search rules in
    sym (no_ends c.args.bytes.now c.in-Some.rest.now c.in-Some.kind kind n rest counted kept after seated none)

pub returns-then-not-is_sealed : goal.returns-then-not-is_sealed
returns-then-not-is_sealed c =
    let kind : byte.read c.args.bytes.now ≡ Some (c.in-Some.kind, c.in-Some.rest.now) = search rules in
    let n = c.in-Some-byte_of.viewers in
    let rest = c.in-Some-byte_of.rest.now in
    let counted : byte.read c.in-Some.rest.now ≡ Some (n, rest) = search rules in
    let kept = c.in-Some-seats_of.kept.items in
    let after = c.in-Some-seats_of.rest.now in
    let seated : many_at seat_codec n rest ≡ Some (kept, after) = search rules in
    let e = c.in-Some-ends_of in
    let begins : (eqb c.in-Some.kind 1 && is_viewer_count n) ≡ true = sym c.begins.ensures ∙ c.if-not-begins.false in
    let ended : ends_codec.read after ≡ Some ((e.number, (e.time, (e.chain.now, e.snapshot.now))), e.sum.now) = search rules in
    sym (unsealed c.args.bytes.now c.in-Some.rest.now c.in-Some.kind kind n rest counted kept after seated (e.number, (e.time, (e.chain.now, e.snapshot.now))) e.sum.now ended begins (sym c.is_sealed.ensures ∙ c.if-not-is_sealed.true))

pub base_with-requires-clause-viewers : goal.base_with-requires-clause-viewers
base_with-requires-clause-viewers c =
    let n = c.in-Some-byte_of.viewers in
    let begins : (eqb c.in-Some.kind 1 && is_viewer_count n) ≡ true = sym c.begins.ensures ∙ c.if-not-begins.false in
    let long : length c.in-Some-seats_of.kept.items ≡ n = c.in-Some-seats_of.ensures.len in
    subst (λ (k : ℕ). IsTrue (is_viewer_count k)) (sym long ∙ ap length (sym c.as_slice.ensures.value)) (both (eqb c.in-Some.kind 1) (is_viewer_count n) begins).1

pub returns : goal.returns
returns c =
    let kind : byte.read c.args.bytes.now ≡ Some (c.in-Some.kind, c.in-Some.rest.now) = search rules in
    let n = c.in-Some-byte_of.viewers in
    let rest = c.in-Some-byte_of.rest.now in
    let counted : byte.read c.in-Some.rest.now ≡ Some (n, rest) = search rules in
    let kept = c.in-Some-seats_of.kept.items in
    let after = c.in-Some-seats_of.rest.now in
    let seated : many_at seat_codec n rest ≡ Some (kept, after) = search rules in
    let e = c.in-Some-ends_of in
    let begins : (eqb c.in-Some.kind 1 && is_viewer_count n) ≡ true = sym c.begins.ensures ∙ c.if-not-begins.false in
    let ended : ends_codec.read after ≡ Some ((e.number, (e.time, (e.chain.now, e.snapshot.now))), e.sum.now) = search rules in
    let read = sealed c.args.bytes.now c.in-Some.rest.now c.in-Some.kind kind n rest counted kept after seated (e.number, (e.time, (e.chain.now, e.snapshot.now))) e.sum.now ended begins (sym c.is_sealed.ensures ∙ c.if-not-is_sealed.false) in
    let made : c.base_with.result ≡ record { kept = kept; number = e.number; time = e.time; chain = e.chain.now; snapshot = e.snapshot.now } = search rules in
    ap (λ (b : BaseView). some b) made ∙ sym read
