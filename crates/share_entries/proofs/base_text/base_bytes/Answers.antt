use Rattle.std.proofs.Common.{◌≡◌, List, ℕ, [], ◌∷◌, ◌++◌, length, true, refl, ap, subst, ◌∙◌, rules}
use Rattle.std.specs.List.{flat_map}
use Rattle.byte_codec.specs.Codec.{all_fit}
use Rattle.x3d_values.specs.Ranges.{is_input_time}
use Rattle.share_rules.specs.declared.kept.SeatCount.{SeatCount}
use Rattle.share_entries.specs.Head.{is_viewer_count, sum_of}
use Rattle.share_entries.specs.Base.{base_fields, base_in, is_base_number, parts_of, seat_codec}
use Rattle.share_entries.proofs.BaseLaws.{base_again, ends_codec, whole_base}
use Rattle.share_entries.proofs.base_text.base_bytes.Goals as goal

joined : (old new o more m : List ℕ) → new ≡ old ++ more → old ≡ o → more ≡ m → new ≡ o ++ m
joined old new o more m e p q = e ∙ ap (λ (z : List ℕ). z ++ more) p ∙ ap (λ (z : List ℕ). o ++ z) q

four : (a a' b b' d d' f f' : List ℕ) → a ≡ a' → b ≡ b' → d ≡ d' → f ≡ f' → (a ++ (b ++ (d ++ f))) ≡ (a' ++ (b' ++ (d' ++ f')))
four a a' b b' d d' f f' p q r s = rw (p, q, r, s) refl

pub returns-clause-text : goal.returns-clause-text
unfolding base_fields
returns-clause-text c =
    let b = c.args.base.now in
    let front : List ℕ = 1 ∷ length b.kept ∷ [] in
    let seats = flat_map seat_codec.write b.kept in
    let ends = ends_codec.write (b.number, (b.time, (b.chain, b.snapshot))) in
    let began : c.extend_from_slice.new.self.items ≡ front = search rules in
    let kept : c.push_seats.new.out.items ≡ front ++ seats =
    joined c.extend_from_slice.new.self.items c.push_seats.new.out.items front _ seats c.in_ok-push_seats.ensures.text began (ap (λ (k : List SeatCount). flat_map seat_codec.write k) c.kept-kept.ensures.value) in
    let whole : c.push_ends.new.out.items ≡ base_fields.write (parts_of b) =
    joined c.push_seats.new.out.items c.push_ends.new.out.items (front ++ seats) _ ends c.in_ok-push_ends.ensures.text kept (search rules) in
    let sum : c.sum_of-sum.result ≡ sum_of (base_fields.write (parts_of b)) = c.sum_of-sum.ensures ∙ ap (λ (z : List ℕ). sum_of z) (c.deref.ensures.value ∙ whole) in
    joined c.push_ends.new.out.items c.extend_from_slice-2.new.self.items (base_fields.write (parts_of b)) _ (sum_of (base_fields.write (parts_of b))) c.in_ok-extend_from_slice-2.ensures.items whole sum

pub returns-clause-again : goal.returns-clause-again
returns-clause-again c =
    let b = c.args.base.now in
    let viewers : is_viewer_count (length b.kept) ≡ true = search rules in
    let number : is_base_number b.number ≡ true = search rules in
    let time : is_input_time b.time ≡ true = search rules in
    let chain : length b.chain ≡ 16 = search rules in
    let snapshot : length b.snapshot ≡ 32 = search rules in
    let fit : all_fit seat_codec b.kept ≡ true = subst (λ (k : List SeatCount). all_fit seat_codec k ≡ true) c.kept-kept.ensures.value c.in_ok-push_seats.ensures.fit in
    ap (λ (t : List ℕ). base_in t) (returns-clause-text c) ∙ base_again b (whole_base b viewers fit number time chain snapshot)
