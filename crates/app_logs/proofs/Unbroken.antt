-- A line without a break in it ends where it was joined to the next.
use Rattle.std.proofs.Common.{◌≡◌, ◌⊎◌, ℕ, ◌+◌, ◌<◌, ◌≤◌, ℤ, Bool, true, false, List, [], ◌∷◌, ◌++◌, length, drop, take, get_or, Option, Some, None}
use Rattle.std.proofs.Common.{refl, sym, ap, subst, ◌∙◌, inl, inr, arith, eqb-true, length-append, take_at, drop_at, append_assoc}
use Rattle.std.specs.Prelude.{⊤, unwrap_or, slice_index, ◌||◌, ◌==◌, ◌-◌}
use Rattle.std.specs.List.{position_or_len}
use Rattle.std.specs.Option.{option_to_list}
use Rattle.std.specs.Char.{digit_value}
use Rattle.std.specs.Str.Lines.{strip_carriage_return}
use Rattle.std.specs.Str.Parse.{AllDigits}
use Rattle.std.proofs.lemmas.Bool.{cases_Bool, lt-ltb}
use Rattle.x3d_numerals.specs.Numeral.{Exponent, Parts, decimal, hexadecimal, point_text, exponent_text, spelling, IsSign, IsExponent, IsForm, IsNumeral}
use Rattle.share_rules.specs.Lines.{is_lf, first_line, behind_line}

-- a line feed or a carriage return
abbrev is_break : ℕ → Bool
is_break c = (c == 10) || (c == 13)

abbrev pub Unbroken : List ℕ → Type 0
Unbroken [] = ⊤
Unbroken (c ∷ cs) = (is_break c ≡ false) × Unbroken cs

pub unbroken_both : (a b : List ℕ) → Unbroken a → Unbroken b → Unbroken (a ++ b)
unbroken_both [] b h k = k
unbroken_both (c ∷ a) b h k = (h.0, unbroken_both a b h.1 k)

-- ---- numerals

digit_is : (radix c : ℕ) → radix ≤ 16 → digit_value c < radix → is_break c ≡ false
digit_is radix c few h = elim (cases_Bool (c == 10)) [
  | inl ten ↦
      let same : c ≡ 10 = eqb-true c 10 ten in
      let high : 36 < radix = rw same at h in
      absurd (omega (arith, few, high))
  | inr other ↦ elim (cases_Bool (c == 13)) [
    | inl cr ↦
        let same : c ≡ 13 = eqb-true c 13 cr in
        let high : 36 < radix = rw same at h in
        absurd (omega (arith, few, high))
    | inr more ↦ rw (other, more) refl
  ]
]

digits_are : (radix : ℕ) (cs : List ℕ) → radix ≤ 16 → AllDigits radix cs → Unbroken cs
digits_are radix [] few h = tt
digits_are radix (c ∷ cs) few h = (digit_is radix c few h.0, digits_are radix cs few h.1)

sign_is : (sign : Option ℕ) → IsSign sign → Unbroken (option_to_list sign)
sign_is None h = tt
sign_is (Some c) (inl plus) = (rw plus refl, tt)
sign_is (Some c) (inr minus) = (rw minus refl, tt)

point_is : (fraction : Option (List ℕ)) → AllDigits 10 (unwrap_or fraction []) → Unbroken (point_text fraction)
point_is None h = tt
point_is (Some digits) h = (refl, digits_are 10 digits (omega arith) h)

exponent_letter : (c : ℕ) → (c ≡ 101) ⊎ (c ≡ 69) → is_break c ≡ false
exponent_letter c (inl small) = rw small refl
exponent_letter c (inr large) = rw large refl

exponent_is : (e : Option Exponent) → IsExponent e → Unbroken (exponent_text e)
exponent_is None h = tt
exponent_is (Some e) h =
    (exponent_letter e.letter h.0, unbroken_both (option_to_list e.sign) e.digits (sign_is e.sign h.1) (digits_are 10 e.digits (omega arith) h.2))

hexadecimal_letter : (c : ℕ) → (c ≡ 120) ⊎ (c ≡ 88) → is_break c ≡ false
hexadecimal_letter c (inl small) = rw small refl
hexadecimal_letter c (inr large) = rw large refl

spelling_is : (p : Parts) → IsForm p → Unbroken (spelling p)
spelling_is (decimal d) h =
    unbroken_both (option_to_list d.sign) (d.whole ++ (point_text d.fraction ++ exponent_text d.exponent)) (sign_is d.sign h.sign)
    (unbroken_both d.whole (point_text d.fraction ++ exponent_text d.exponent) (digits_are 10 d.whole (omega arith) h.whole)
    (unbroken_both (point_text d.fraction) (exponent_text d.exponent) (point_is d.fraction h.fraction) (exponent_is d.exponent h.exponent)))
spelling_is (hexadecimal x) h =
    unbroken_both (option_to_list x.sign) (48 ∷ x.letter ∷ x.digits) (sign_is x.sign h.sign)
    (refl, (hexadecimal_letter x.letter h.letter, digits_are 16 x.digits (omega arith) h.digits))

pub numeral_is : (text : List ℕ) (n : ℤ) → IsNumeral text n → Unbroken text
numeral_is text n h = subst Unbroken h.spelled (spelling_is h.parts h.form)

-- ---- the first line of a text

not_lf : (c : ℕ) → is_break c ≡ false → is_lf c ≡ false
not_lf c h = elim (cases_Bool (c == 10)) [
  | inl ten ↦ let bad : true ≡ false = rw ten at h in absurd (cc)
  | inr other ↦ other
]

not_cr : (c : ℕ) → is_break c ≡ false → (c == 13) ≡ false
not_cr c h = elim (cases_Bool (c == 10)) [
  | inl ten ↦ let bad : true ≡ false = rw ten at h in absurd (cc)
  | inr other ↦ let rest : (c == 13) ≡ false = rw other at h in rest
]

position : (a rest : List ℕ) → Unbroken a → position_or_len is_lf (a ++ (10 ∷ rest)) ≡ length a
position [] rest h = refl
position (c ∷ a) rest h =
    let next = position a rest h.1 in
    rw (not_lf c h.0) (omega (arith, next))

last_is : (c : ℕ) (cs : List ℕ) → Unbroken (c ∷ cs) → (get_or (c ∷ cs) (length cs) 0 == 13) ≡ false
last_is c [] h = not_cr c h.0
last_is c (d ∷ cs) h = last_is d cs h.1

stripped : (a : List ℕ) → Unbroken a → strip_carriage_return a ≡ a
stripped [] h = refl
stripped (c ∷ cs) h =
    let place : length (c ∷ cs) - 1 ≡ length cs = omega arith in
    let other : (slice_index (c ∷ cs) (length (c ∷ cs) - 1) == 13) ≡ false = ap (λ i. get_or (c ∷ cs) i 0 == 13) place ∙ last_is c cs h in
    rw other refl

pub first_is : (a rest : List ℕ) → Unbroken a → first_line (a ++ (10 ∷ rest)) ≡ a
unfolding first_line
first_is a rest h =
    let text = a ++ (10 ∷ rest) in
    let at = position a rest h in
    let within : position_or_len is_lf (a ++ (10 ∷ rest)) < length (a ++ (10 ∷ rest)) = omega (arith, at, length-append a (10 ∷ rest)) in
    rw (lt-ltb (position_or_len is_lf (a ++ (10 ∷ rest))) (length (a ++ (10 ∷ rest))) within)
    (ap (λ n. strip_carriage_return (take n (a ++ (10 ∷ rest)))) at ∙ ap strip_carriage_return (take_at a (10 ∷ rest) (length a) refl) ∙ stripped a h)

pub behind_is : (a rest : List ℕ) → Unbroken a → behind_line (a ++ (10 ∷ rest)) ≡ rest
unfolding behind_line
behind_is a rest h =
    let sized : length (a ++ 10 ∷ []) ≡ length a + 1 = length-append a (10 ∷ []) in
    ap (λ n. drop (n + 1) (a ++ (10 ∷ rest))) (position a rest h)
    ∙ ap (drop (length a + 1)) (sym (append_assoc a (10 ∷ []) rest))
    ∙ drop_at (a ++ 10 ∷ []) rest (length a + 1) sized
