-- A piece that is cut from a snapshot's bytes.
use Rattle.std.proofs.Common.{◌≡◌, ℕ, ◌-◌, ◌*◌, ◌^◌, ◌<◌, ◌≤◌, min, Bool, true, false, inl, inr, List, length, take, drop, refl, ap, sym, ◌∙◌, arith}
use Rattle.std.specs.Prelude.{◌&&◌, nat_le, nat_lt, Option, None}
use Rattle.std.proofs.lemmas.Bool.{cases_Bool, cond-false, leb-true, leb-false}
use Rattle.std.proofs.lemmas.List.{take_all, length-drop}
use Rattle.share_wire.specs.Messages.{is_ordinal, is_piece, piece_size}
use Rattle.share_wire.specs.declared.message.Body.{Body}
use Rattle.share_law.specs.Pieces.{piece_bytes, piece_packet}
use Rattle.x3d_values.specs.Ranges.{max_inputs}

-- the last piece has what is left
pub cut_bytes : (text : List ℕ) (i : ℕ) → take (piece_size (length text) i) (drop (192 * i) text) ≡ piece_bytes text i
cut_bytes text i =
    let left : ℕ = length text - 192 * i in
    let rest : List ℕ = drop (192 * i) text in
    let long : length rest ≡ left = length-drop (192 * i) text in
    elim (cases_Bool (nat_le 192 left)) [
      | inl full ↦ ap (λ n. take n rest) (let le : 192 ≤ left = leb-true 192 left full in let e : min 192 left ≡ 192 = omega (arith, le) in e)
      | inr short ↦
          (let lt : left < 192 = leb-false 192 left short in
          let e : min 192 left ≡ left = omega (arith, lt) in
          ap (λ n. take n rest) e ∙ take_all left rest (omega (arith, long)) ∙ sym (take_all 192 rest (omega (arith, long, lt))))
    ]

and_false : (a b c : Bool) → (a && ((b && false) && c)) ≡ false
and_false false b c = refl
and_false true false c = refl
and_false true true c = refl

-- more bytes than a snapshot may have
pub too_long : (boot applied size i : ℕ) → nat_le size (2 ^ 26) ≡ false → is_piece boot applied size i ≡ false
too_long boot applied size i long =
    ap (λ (b : Bool). (is_ordinal boot && nat_le applied max_inputs) && ((nat_le 85 size && b) && nat_lt (192 * i) size)) long
    ∙ and_false (is_ordinal boot && nat_le applied max_inputs) (nat_le 85 size) (nat_lt (192 * i) size)

pub no_packet : (boot applied : ℕ) (text : List ℕ) (i : ℕ) → nat_le (length text) (2 ^ 26) ≡ false → None ≡ piece_packet boot applied text i
no_packet boot applied text i long =
    let none : Option Body = None in
    sym (cond-false (is_piece boot applied (length text) i) _ none (too_long boot applied (length text) i long))
