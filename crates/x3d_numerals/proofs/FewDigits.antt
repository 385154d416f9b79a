-- A text of a few digits, with at most one point among them, is a numeral.
use Rattle.std.proofs.Common.{◌≡◌, ℕ, not, true, ◌≢◌, ◌==◌, ◌+◌, ◌*◌, ◌^◌, ◌<◌, ◌≤◌, ℤ, List, [], ◌∷◌, ◌++◌, length, take, drop, Option, Some, None, Ok, unwrap_or, refl, sym, ap, subst, ◌∙◌, append-nil, arith}
use Rattle.std.specs.Option.{option_to_list}
use Rattle.std.specs.Str.Parse.{AllDigits, digits_value}
use Rattle.std.proofs.Math.Nat.{one-le-pow, pow-le-pow_right, div-lt_iff_lt-mul}
use Rattle.std.proofs.lemmas.List.{take-append-drop, length-append, nil_from_length}
use Rattle.std.proofs.lemmas.Bool.{eqb-false, not-true}
use Rattle.std.proofs.lemmas.Nat.{mul-le}
use Rattle.std.proofs.lemmas.Int.Digits.{digits_value-lt}
use Rattle.x3d_numerals.specs.Numeral.{Decimal, decimal, number, rounded, limit, point_text, IsDecimal, IsNumeral}
use Rattle.x3d_numerals.specs.Plain.{IsPlain}
use Rattle.x3d_numerals.specs.Reading.{run, sign_of, behind_sign, numeral}
use Rattle.x3d_numerals.proofs.Cuts.{sign_spelled, sign_is}
use Rattle.x3d_numerals.proofs.Runs.{AllDigits-run, AllDigits-whole}
use Rattle.x3d_numerals.proofs.Scaling.{AllDigits-append}
use Rattle.x3d_numerals.proofs.Numerals.{numeral_complete}

-- ---- the size

not_above : (n m : ℕ) → 1 ≤ m → rounded n m ≤ n
not_above n m h =
    let a : n * 1 ≤ n * m = mul-le n 1 n m (omega arith) h in
    let b : 2 * n + m < (n + 1) * (2 * m) = omega arith in
    let c = (div-lt_iff_lt-mul {k = 2 * m} {x = 2 * n + m} {y = n + 1} (omega arith)).1 b in
    omega arith

-- so few digits write a number within the limit
within : (ds : List ℕ) (places : ℕ) → AllDigits 10 ds → length ds ≤ 12 → rounded (digits_value 10 ds * 10 ^ 6) (10 ^ places) ≤ limit
within ds places h few =
    let a = digits_value-lt 10 ds h in
    let b : 10 ^ length ds ≤ 10 ^ 12 = pow-le-pow_right (omega arith) few in
    let c = not_above (digits_value 10 ds * 10 ^ 6) (10 ^ places) (one-le-pow places 10 (omega arith)) in
    omega (arith, a, b, c)

-- ---- the numeral

-- the digits before the point of a text, and those after it if it has one
abbrev parts_with : List ℕ → List ℕ → Option (List ℕ) → Decimal
parts_with text whole fraction = record { sign = sign_of text; whole = whole; fraction = fraction; exponent = None }

spelled : (text whole behind : List ℕ) → behind_sign text ≡ whole ++ behind → option_to_list (sign_of text) ++ (whole ++ (behind ++ [])) ≡ text
spelled text whole behind e =
    ap (λ x. option_to_list (sign_of text) ++ (whole ++ x)) (append-nil behind) ∙ (ap (λ x. option_to_list (sign_of text) ++ x) (sym e) ∙ sign_spelled text)

-- a fraction is shorter than its text
places_len : (fraction : Option (List ℕ)) → length (unwrap_or fraction []) ≤ length (point_text fraction)
places_len None = omega arith
places_len (Some digits) = omega arith

-- a sign and a few digits with a point among them
pub numeral_of : (text rest : List ℕ) → rest ≡ behind_sign text → length rest ≤ 12 → IsPlain rest → (n : ℤ) × (numeral text ≡ Ok n)
numeral_of text rest e few plain =
    let places = unwrap_or plain.fraction [] in
    let d : Decimal = parts_with text plain.whole plain.fraction in
    let form : IsDecimal d = record { sign = sign_is text; whole = plain.digits; fraction = plain.places; some_digit = plain.some_digit; exponent = tt } in
    let len = length-append plain.whole (point_text plain.fraction) in
    let spelled_len = ap length plain.spelled in
    let behind = places_len plain.fraction in
    let all_len = length-append plain.whole places in
    let is : IsNumeral text (number (decimal d)) = record {
      parts = decimal d;
      spelled = spelled text plain.whole (point_text plain.fraction) (sym e ∙ sym plain.spelled);
      form = form;
      within = within (plain.whole ++ places) (length places + 0) (AllDigits-append plain.whole places plain.digits plain.places) (omega arith);
      value = refl;
    } in
    (number (decimal d), numeral_complete text (number (decimal d)) is)

-- ---- how it is read

pub some_of : (n : ℕ) → not (n == 0) ≡ true → 0 < n
some_of n e = let some : n ≢ 0 = eqb-false n 0 (not-true (n == 0) e) in omega arith

joined : (text : List ℕ) {whole rest : List ℕ} → whole ≡ take (run 10 text) text → rest ≡ drop (run 10 text) text → whole ++ rest ≡ text
joined text {whole} e f = ap (λ x. whole ++ x) f ∙ (ap (λ x. x ++ drop (run 10 text) text) e ∙ take-append-drop (run 10 text) text)

pub digits_alone : (text whole rest : List ℕ) → whole ≡ take (run 10 text) text → rest ≡ drop (run 10 text) text → length rest ≡ 0 → 0 < length whole → IsPlain text
digits_alone text whole rest e f none some =
    record {
      whole = whole;
      fraction = None;
      spelled = ap (λ x. whole ++ x) (sym (nil_from_length rest none)) ∙ joined text e f;
      digits = subst (AllDigits 10) (sym e) (AllDigits-run 10 text);
      places = tt;
      some_digit = omega arith;
    }

pub digits_and_point : (text whole rest fraction : List ℕ) → whole ≡ take (run 10 text) text → rest ≡ drop (run 10 text) text → rest ≡ 46 ∷ fraction → run 10 fraction ≡ length fraction → 0 < length whole + length fraction → IsPlain text
digits_and_point text whole rest fraction e f point all some =
    record {
      whole = whole;
      fraction = Some fraction;
      spelled = ap (λ x. whole ++ x) (sym point) ∙ joined text e f;
      digits = subst (AllDigits 10) (sym e) (AllDigits-run 10 text);
      places = AllDigits-whole 10 fraction all;
      some_digit = some;
    }
