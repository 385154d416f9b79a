-- The text of a number is a token that stands for it.
use Rattle.std.proofs.Common.{◌≡◌, ◌≢◌, ℕ, ◌+◌, ◌<◌, ◌≤◌, ℤ, List, [], ◌∷◌, ◌++◌, length, true, false, not, Option, Some, None, refl, sym, subst, arith, ◌⊎◌, inl, inr, unwrap_or}
use Rattle.std.specs.Prelude.{nat_lt}
use Rattle.std.specs.Char.{digit_value}
use Rattle.std.specs.Str.{IsUtf8}
use Rattle.std.specs.Str.Parse.{AllDigits}
use Rattle.std.specs.List.{list_all, AllByRecursion}
use Rattle.std.specs.Option.{option_to_list}
use Rattle.std.proofs.lemmas.Bool.{cond_both, ltb-true, ltb-false, ne_eqb, and_from, not_from_false, le-leb}
use Rattle.std.proofs.lemmas.Str.{IsUtf8-append, IsUtf8-nil}
use Rattle.std.proofs.lemmas.Str.Parse.{digit_from_value}
use Rattle.x3d_numerals.specs.Numeral.{Exponent, Parts, decimal, hexadecimal, IsSign, IsExponent, IsForm, point_text, exponent_text, spelling, IsNumeral as StandsFor}
use Rattle.x3d_numerals.specs.NumberText.{IsLimited, number_text}
use Rattle.x3d_numerals.proofs.Written.{numeral_of}
use Rattle.classic_lex.specs.declared.token.TokenKind.TheVariants.{Numeral}
use Rattle.classic_bytes.specs.Bytes.{is_space, is_digit, ends_numeral}
use Rattle.classic_lex.specs.Tokens.{NotAhead, BeginsNumeral, IsToken}
use Rattle.classic_text.specs.Spells.{IsNumber}
use Rattle.classic_round_trip.proofs.Pieces.{one_byte, Found, Always, one}

-- ---- the bytes of a numeral

-- it is ASCII, and a numeral goes on with it
abbrev IsNumeralByte : ℕ → Type 0
IsNumeralByte c = (c < 128) × (ends_numeral c ≡ false)

abbrev AreNumeralBytes : List ℕ → Type 0
AreNumeralBytes cs = AllByRecursion IsNumeralByte cs

ends_not : (c : ℕ) → 48 ≤ c → c ≢ 91 → c ≢ 93 → c ≢ 123 → c ≢ 125 → ends_numeral c ≡ false
unfolding ends_numeral is_space
ends_not c h p q r s =
    rw (
      ne_eqb c 32 (λ e. omega arith),
      ne_eqb c 9 (λ e. omega arith),
      ne_eqb c 13 (λ e. omega arith),
      ne_eqb c 10 (λ e. omega arith),
      ne_eqb c 44 (λ e. omega arith),
      ne_eqb c 91 p,
      ne_eqb c 93 q,
      ne_eqb c 123 r,
      ne_eqb c 125 s,
      ne_eqb c 34 (λ e. omega arith),
      ne_eqb c 35 (λ e. omega arith),
    ) refl

between : (c : ℕ) → ((48 ≤ c) × (c ≤ 57)) ⊎ (((65 ≤ c) × (c ≤ 90)) ⊎ ((97 ≤ c) × (c ≤ 122))) → IsNumeralByte c
between c (inl h) = (omega arith, ends_not c (omega arith) (λ e. omega arith) (λ e. omega arith) (λ e. omega arith) (λ e. omega arith))
between c (inr (inl h)) = (omega arith, ends_not c (omega arith) (λ e. omega arith) (λ e. omega arith) (λ e. omega arith) (λ e. omega arith))
between c (inr (inr h)) = (omega arith, ends_not c (omega arith) (λ e. omega arith) (λ e. omega arith) (λ e. omega arith) (λ e. omega arith))

-- a digit in radix 16, or less
digit_byte : (c : ℕ) → digit_value c < 16 → IsNumeralByte c
digit_byte c =
    cond_both (nat_lt c 48) _ _ P (λ e h. absurd (omega arith)) (λ e1.
    cond_both (nat_lt c 58) _ _ P (λ e h. between c (inl (omega (arith, ltb-false c 48 e1), omega (arith, ltb-true c 58 e)))) (λ e2.
    cond_both (nat_lt c 65) _ _ P (λ e h. absurd (omega arith)) (λ e3.
    cond_both (nat_lt c 91) _ _ P (λ e h. between c (inr (inl (omega (arith, ltb-false c 65 e3), omega (arith, ltb-true c 91 e))))) (λ e4.
    cond_both (nat_lt c 97) _ _ P (λ e h. absurd (omega arith)) (λ e5.
    cond_both (nat_lt c 123) _ _ P (λ e h. between c (inr (inr (omega (arith, ltb-false c 97 e5), omega (arith, ltb-true c 123 e)))))
    (λ e h. absurd (omega arith)))))))
  where
    P : ℕ → Type 0
    P v = v < 16 → IsNumeralByte c

one_of : (c a b : ℕ) → (c ≡ a) ⊎ (c ≡ b) → IsNumeralByte a → IsNumeralByte b → IsNumeralByte c
one_of c a b (inl e) h k = subst IsNumeralByte (sym e) h
one_of c a b (inr e) h k = subst IsNumeralByte (sym e) k

bytes-append : (xs ys : List ℕ) → AreNumeralBytes xs → AreNumeralBytes ys → AreNumeralBytes (xs ++ ys)
bytes-append [] ys h k = k
bytes-append (x ∷ xs) ys h k = (h.0, bytes-append xs ys h.1 k)

digits_bytes : (radix : ℕ) (ds : List ℕ) → radix ≤ 16 → AllDigits radix ds → AreNumeralBytes ds
digits_bytes radix [] l h = tt
digits_bytes radix (d ∷ ds) l h = (digit_byte d (omega (arith, h.0)), digits_bytes radix ds l h.1)

sign_bytes : (sign : Option ℕ) → IsSign sign → AreNumeralBytes (option_to_list sign)
unfolding ends_numeral is_space
sign_bytes None h = tt
sign_bytes (Some c) h = (one_of c 43 45 h (omega arith, refl) (omega arith, refl), tt)

point_bytes : (part : Option (List ℕ)) → AllDigits 10 (unwrap_or part []) → AreNumeralBytes (point_text part)
unfolding ends_numeral is_space
point_bytes None h = tt
point_bytes (Some ds) h = ((omega arith, refl), digits_bytes 10 ds (omega arith) h)

exponent_bytes : (part : Option Exponent) → IsExponent part → AreNumeralBytes (exponent_text part)
unfolding ends_numeral is_space
exponent_bytes None h = tt
exponent_bytes (Some e) h = (
  one_of e.letter 101 69 h.0 (omega arith, refl) (omega arith, refl),
  bytes-append (option_to_list e.sign) e.digits (sign_bytes e.sign h.1) (digits_bytes 10 e.digits (omega arith) h.2),
)

form_bytes : (p : Parts) → IsForm p → AreNumeralBytes (spelling p)
unfolding ends_numeral is_space
form_bytes (decimal d) h =
    bytes-append (option_to_list d.sign) _ (sign_bytes d.sign h.sign) (bytes-append d.whole _ (digits_bytes 10 d.whole (omega arith) h.whole)
    (bytes-append (point_text d.fraction) _ (point_bytes d.fraction h.fraction) (exponent_bytes d.exponent h.exponent)))
form_bytes (hexadecimal x) h =
    bytes-append (option_to_list x.sign) _ (sign_bytes x.sign h.sign)
    ((omega arith, refl), (one_of x.letter 120 88 h.letter (omega arith, refl) (omega arith, refl), digits_bytes 16 x.digits (omega arith) h.digits))

-- ---- how a numeral begins

abbrev Begins : List ℕ → Type 0
Begins [] = ⊥
Begins (b ∷ bs) = BeginsNumeral b bs

decimal_digit : (c : ℕ) → digit_value c < 10 → is_digit c ≡ true
unfolding is_digit
decimal_digit c h = let r = digit_from_value c h in and_from _ _ (le-leb 48 c r.0) (le-leb c 57 r.1)

begins_signed : (sign : Option ℕ) (rest : List ℕ) → IsSign sign → Begins rest → Begins (option_to_list sign ++ rest)
begins_signed None rest s h = h
begins_signed (Some c) rest (inl e) h = inr (inl e)
begins_signed (Some c) rest (inr e) h = inr (inr (inl e))

begins_unsigned : (whole : List ℕ) (part : Option (List ℕ)) (more : List ℕ) → AllDigits 10 whole → AllDigits 10 (unwrap_or part [])
    → 0 < length whole + length (unwrap_or part []) → Begins (whole ++ (point_text part ++ more))
begins_unsigned [] None more w f s = absurd (omega arith)
begins_unsigned [] (Some []) more w f s = absurd (omega arith)
begins_unsigned [] (Some (d ∷ ds)) more w f s = inr (inr (inr (refl, decimal_digit d f.0)))
begins_unsigned (d ∷ ds) part more w f s = inl (decimal_digit d w.0)

begins_form : (p : Parts) → IsForm p → Begins (spelling p)
unfolding is_digit
begins_form (decimal d) h = begins_signed d.sign _ h.sign
    (begins_unsigned d.whole d.fraction (exponent_text d.exponent) h.whole h.fraction h.some_digit)
begins_form (hexadecimal x) h = begins_signed x.sign (48 ∷ x.letter ∷ x.digits) h.sign (inl refl)

-- ---- a numeral is a token

run : (cs : List ℕ) → AreNumeralBytes cs → list_all (λ c. not (ends_numeral c)) cs ≡ true
run [] h = refl
run (c ∷ cs) h = and_from _ _ (not_from_false (ends_numeral c) h.0.1) (run cs h.1)

all_utf8 : (cs : List ℕ) → AreNumeralBytes cs → IsUtf8 cs
all_utf8 [] h = IsUtf8-nil
all_utf8 (c ∷ cs) h = IsUtf8-append (c ∷ []) cs (one_byte c h.0.0) (all_utf8 cs h.1)

abbrev pub EndsNumeral : List ℕ → Type 0
EndsNumeral rest = NotAhead (λ c. not (ends_numeral c)) rest

numeral_token : (text : List ℕ) (n : ℤ) (rest : List ℕ) → StandsFor text n → Begins text → AreNumeralBytes text → EndsNumeral rest
    → IsToken Numeral text rest
numeral_token [] n rest h b a e = absurd b
numeral_token (c ∷ cs) n rest h b a e = (b, (run cs a.1, e), (n, h))

-- the text of a number is found as that number
pub found_number : (n : ℤ) (rest : List ℕ) → IsLimited n → EndsNumeral rest → Found (number_text n) rest Always (IsNumber n)
found_number n rest l e =
    let h = numeral_of n l in
    let a : AreNumeralBytes (number_text n) = subst AreNumeralBytes h.spelled (form_bytes h.parts h.form) in
    let b : Begins (number_text n) = subst Begins h.spelled (begins_form h.parts h.form) in
    one Numeral (number_text n) (numeral_token (number_text n) n rest h b a e) (all_utf8 (number_text n) a) (λ line ms. (refl, h, refl))
