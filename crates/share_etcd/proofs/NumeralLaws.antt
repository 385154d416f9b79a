-- Numbers are read from their own texts and from no others.
use Rattle.std.proofs.Common.{◌≡◌, ℕ, zero, suc, ◌<◌, ◌^◌, Bool, true, false, cond, List, [], ◌∷◌, length, Some, None, Result, Ok, Err, inl, inr, refl, sym, ap, subst, ◌∙◌, arith}
use Rattle.std.specs.Prelude.{◌==◌, ◌&&◌, nat_eq, nat_le, nat_lt, slice_index, decimal}
use Rattle.std.specs.Int.{w64, to_be_bytes, from_be_bytes}
use Rattle.std.specs.Cmp.Lexicographic.{pointwise, bytes_decides}
use Rattle.std.specs.Str.Parse.{AllDigits, IsNumeral, digits_value, without_leading_plus}
use Rattle.std.specs.Char.{digit_value}
use Rattle.std.proofs.lemmas.Bool.{and_parts, cases_Bool, eqb-true, ltb-true}
use Rattle.std.proofs.lemmas.Fmt.{decimal_is_IsNumeral, parse-decimal}
use Rattle.std.proofs.lemmas.Nat.{be_bytes_8, from_be_bytes-to_be_bytes_8}
use Rattle.byte_codec.specs.Codec.{number_text}
use Rattle.hex.specs.Hex.{IsBytes, encode_lower, decode_sized, decode_of}
use Rattle.hex.specs.declared.error.FromHexError.{FromHexError}
use Rattle.hex.proofs.HexLemmas.{decode_sized-encode_lower, decode_sized-ok, decode_sized-twice, decode_of-ok}
use Rattle.share_etcd.specs.Numerals.{digits_of, with_digits, number_of, is_revision, with_decimal, revision_of, NumeralsAreExact}

-- ---- hexadecimal digits

wide_bytes : (n : ℕ) → n < 2 ^ 64 → IsBytes (to_be_bytes w64 n)
wide_bytes n h zero = omega arith
wide_bytes n h (suc zero) = omega arith
wide_bytes n h (suc (suc zero)) = omega arith
wide_bytes n h (suc (suc (suc zero))) = omega arith
wide_bytes n h (suc (suc (suc (suc zero)))) = omega arith
wide_bytes n h (suc (suc (suc (suc (suc zero))))) = omega arith
wide_bytes n h (suc (suc (suc (suc (suc (suc zero)))))) = omega arith
wide_bytes n h (suc (suc (suc (suc (suc (suc (suc zero))))))) = omega arith
wide_bytes n h (suc (suc (suc (suc (suc (suc (suc (suc i)))))))) = omega arith

number_again : (n : ℕ) → n < 2 ^ 64 → number_of (digits_of n) ≡ Some n
unfolding number_text
number_again n h =
    let bytes : List ℕ = to_be_bytes w64 n in
    let read : decode_sized (encode_lower bytes) 8 ≡ Ok bytes = decode_sized-encode_lower bytes 8 refl (wide_bytes n h) in
    let same : pointwise nat_eq (encode_lower bytes) (encode_lower bytes) ≡ true = (bytes_decides (encode_lower bytes) (encode_lower bytes)).1 refl in
    rw (read, same, from_be_bytes-to_be_bytes_8 n h) refl

-- bytes that were decoded, and their number
digits_found : (text bytes : List ℕ) (n : ℕ) (b : Bool) → b ≡ pointwise nat_eq text (encode_lower bytes) → length bytes ≡ 8 → IsBytes bytes → cond b (Some (from_be_bytes w64 bytes)) None ≡ Some n → text ≡ digits_of n
unfolding number_text
digits_found text bytes n false is len fits e = absurd cc
digits_found text bytes n true is len fits e =
    let same : text ≡ encode_lower bytes = (bytes_decides text (encode_lower bytes)).0 (sym is) in
    let value : n ≡ from_be_bytes w64 bytes = cc in
    same ∙ ap encode_lower (sym (be_bytes_8 bytes n len fits value))

number_found : (text : List ℕ) (n : ℕ) (r : Result (List ℕ) FromHexError) → decode_sized text 8 ≡ r → with_digits text r ≡ Some n → text ≡ digits_of n
number_found text n (Err f) is e = absurd cc
number_found text n (Ok bytes) is e =
    let long : length text ≡ 16 = decode_sized-ok text 8 bytes is in
    let whole : decode_of text ≡ Ok bytes = sym (decode_sized-twice text 8 long) ∙ is in
    let parts = decode_of-ok text bytes whole in
    digits_found text bytes n (pointwise nat_eq text (encode_lower bytes)) refl (omega (arith, parts.2)) parts.3 e

-- ---- decimal numerals

abbrev passes : List ℕ → ℕ → Bool
passes text n = is_revision n && pointwise nat_eq text (decimal n)

below : (n : ℕ) → is_revision n ≡ true → n < 2 ^ 64
below n e =
    let top : n < 2 ^ 63 = ltb-true n (2 ^ 63) (and_parts (nat_le 1 n) (nat_lt n (2 ^ 63)) e).1 in
    omega arith

pub numeral_found : (text : List ℕ) (n m : ℕ) → with_decimal text n ≡ Some m → (n ≡ m) × (passes text n ≡ true)
numeral_found text n m e = elim (cases_Bool (passes text n)) [
  | inl yes' ↦ (let held : with_decimal text n ≡ Some n = rw yes' refl in cc, yes')
  | inr no' ↦ absurd (let gone : with_decimal text n ≡ None = rw no' refl in cc)
]

revision_again : (n : ℕ) → is_revision n ≡ true → revision_of (decimal n) ≡ Some n
revision_again n e =
    let value : digits_value 10 (decimal n) ≡ n = (decimal_is_IsNumeral n (below n e)).1 in
    let same : pointwise nat_eq (decimal n) (decimal n) ≡ true = (bytes_decides (decimal n) (decimal n)).1 refl in
    rw (value, e, same) refl

revision_found : (text : List ℕ) (n : ℕ) → revision_of text ≡ Some n → text ≡ decimal n
revision_found text n e =
    let found = numeral_found text (digits_value 10 text) n e in
    (bytes_decides text (decimal (digits_value 10 text))).0 (and_parts (is_revision (digits_value 10 text)) (pointwise nat_eq text (decimal (digits_value 10 text))) found.1).1 ∙ ap decimal found.0

pub numerals_exact : NumeralsAreExact
numerals_exact = (number_again, (λ text n e. number_found text n (decode_sized text 8) refl e), revision_again, revision_found)

-- ---- what `parse` gives

no_plus : (ds : List ℕ) → AllDigits 10 ds → 0 < length ds → slice_index ds 0 ≡ 43 → ⊥
no_plus [] digits some first = omega arith
no_plus (c ∷ cs) digits some first =
    let P : ℕ → Type 0 = λ d. digit_value d < 10 in
    let bad : digit_value 43 < 10 = subst P first digits.0 in
    omega (arith, bad)

-- a text with a plus is no decimal numeral
plus_is_none : (text : List ℕ) (n : ℕ) → (slice_index text 0 == 43) ≡ true → with_decimal text n ≡ None
plus_is_none text n plus = elim (cases_Bool (passes text n)) [
  | inl yes' ↦ absurd (
      let parts = and_parts (is_revision n) (pointwise nat_eq text (decimal n)) yes' in
      let is : text ≡ decimal n = (bytes_decides text (decimal n)).0 parts.1 in
      let numeral = (decimal_is_IsNumeral n (below n parts.0)).0 in
      no_plus (decimal n) numeral.1 numeral.0 (ap (λ (ds : List ℕ). slice_index ds 0) (sym is) ∙ eqb-true (slice_index text 0) 43 plus))
  | inr no' ↦ rw no' refl
]

-- a number that was read: the test of the text against it is the test of the definition
pub parsed : (text : List ℕ) (n : ℕ) → n ≡ digits_value 10 (without_leading_plus text) → with_decimal text n ≡ revision_of text
parsed text n value =
    elim (cases_Bool (slice_index text 0 == 43)) [
      | inl plus ↦ plus_is_none text n plus ∙ sym (plus_is_none text (digits_value 10 text) plus)
      | inr plain ↦
          let whole : without_leading_plus text ≡ text = rw plain refl in
          ap (λ m. with_decimal text m) (value ∙ ap (λ ds. digits_value 10 ds) whole)
    ]

-- a text that isn't read is no decimal numeral
pub unparsed : (text : List ℕ) → (IsNumeral 10 (without_leading_plus text) × (digits_value 10 (without_leading_plus text) < 2 ^ 64) → ⊥) → revision_of text ≡ None
unparsed text refused = elim (cases_Bool (passes text (digits_value 10 text))) [
  | inl yes' ↦ absurd (
      let n : ℕ = digits_value 10 text in
      let parts = and_parts (is_revision n) (pointwise nat_eq text (decimal n)) yes' in
      let lt = below n parts.0 in
      let same : text ≡ decimal n = (bytes_decides text (decimal n)).0 parts.1 in
      let answer : Result ℕ (Unit {0}) = Err tt in
      let read : answer ≡ Ok n = parse-decimal 64 n text answer lt lt same refused in cc)
  | inr no' ↦ rw no' refl
]
