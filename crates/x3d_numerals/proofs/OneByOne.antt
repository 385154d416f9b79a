-- Digits that are read one by one.
use Rattle.std.proofs.Common.{◌≡◌, ℕ, suc, ◌+◌, ◌-◌, ◌*◌, ◌<◌, ◌≤◌, ◌^◌, List, [], ◌∷◌, ◌++◌, length, take, drop, get_or, min, Bool, true, false, add-zero, refl, sym, ap, ◌∙◌, inl, inr, arith, true≢false}
use Rattle.std.specs.Char.{digit_value}
use Rattle.std.specs.Int.{IsInRange}
use Rattle.std.specs.Str.Parse.{AllDigits, digits_value, digits_value_after}
use Rattle.std.proofs.Math.Seq.{drop-cons}
use Rattle.std.proofs.lemmas.Bool.{and_parts, and_from, leb-true, le-leb, lt-ltb, cases_lt}
use Rattle.std.proofs.lemmas.List.{take_all, take_more}
use Rattle.std.proofs.lemmas.Str.Parse.{digit_from_value}
use Rattle.classic_bytes.specs.Bytes.{is_digit}
use Rattle.x3d_numerals.specs.Reading.{run}
use Rattle.x3d_numerals.proofs.Runs.{value_append, run_none, run_all}
use Rattle.x3d_numerals.specs.Numeral.{rounded, scaled}
use Rattle.x3d_numerals.proofs.Rounding.{digit_value-digit}
use Rattle.x3d_numerals.proofs.Scaling.{saturated}

pub digit_in : (b : ℕ) → is_digit b ≡ true → IsInRange 48 57 b
unfolding is_digit
digit_in b e = let p = and_parts _ _ e in (leb-true 48 b p.0, leb-true b 57 p.1)

digit_below : (b : ℕ) → is_digit b ≡ true → digit_value b < 10
digit_below b e = let r = digit_in b e in rw (digit_value-digit b r) (omega (arith, r.0, r.1))

no_digit_above : (b : ℕ) → is_digit b ≡ false → 10 ≤ digit_value b
unfolding is_digit
no_digit_above b e =
    elim (cases_lt (digit_value b) 10) [
      | inl k ↦ let r = digit_from_value b k in absurd (true≢false (sym (and_from _ _ (le-leb 48 b (omega (arith, r))) (le-leb b 57 (omega (arith, r)))) ∙ e))
      | inr k ↦ k
    ]

run_cons : (c : ℕ) (cs : List ℕ) → digit_value c < 10 → run 10 (c ∷ cs) ≡ 1 + run 10 cs
run_cons c cs h = rw (lt-ltb (digit_value c) 10 h) refl

-- a digit more is read
pub run_more : (text : List ℕ) (i : ℕ) → i < length text → is_digit (get_or text i 0) ≡ true → run 10 text ≡ i + run 10 (drop i text) → run 10 text ≡ i + 1 + run 10 (drop (i + 1) text)
run_more text i k e h =
    let one : suc i ≡ i + 1 = omega arith in
    let more = ap (run 10) (drop-cons text i 0 k) ∙ (run_cons (get_or text i 0) (drop (suc i) text) (digit_below (get_or text i 0) e) ∙ ap (λ n. 1 + run 10 (drop n text)) one) in
    h ∙ (ap (λ n. i + n) more ∙ omega arith)

-- no digit is next
pub run_ends : (text : List ℕ) (i : ℕ) → i < length text → is_digit (get_or text i 0) ≡ false → run 10 text ≡ i + run 10 (drop i text) → i ≡ run 10 text
run_ends text i k e h =
    let none = ap (run 10) (drop-cons text i 0 k) ∙ run_none 10 (get_or text i 0) (drop (suc i) text) (no_digit_above (get_or text i 0) e) in
    omega (arith, h, none)

-- the number with a digit more
pub value_more : (n : ℕ) (text : List ℕ) (i : ℕ) → i < length text → is_digit (get_or text i 0) ≡ true
    → digits_value_after 10 n (take (i + 1) text) ≡ digits_value_after 10 n (take i text) * 10 + (get_or text i 0 - 48)
value_more n text i k e =
    ap (digits_value_after 10 n) (take_more text i 0 k) ∙ (value_append 10 n (take i text) (get_or text i 0 ∷ []) ∙ ap (λ d. digits_value_after 10 n (take i text) * 10 + d) (digit_value-digit (get_or text i 0) (digit_in (get_or text i 0) e)))

-- all of it are digits
pub all_read : (n m : ℕ) (ds : List ℕ) → AllDigits 10 ds → min (digits_value_after 10 n (take (run 10 ds) ds)) m ≡ min (digits_value_after 10 n ds) m
all_read n m ds h =
    ap (λ xs. min (digits_value_after 10 n xs) m) (ap (λ k. take k ds) (run_all 10 ds h) ∙ take_all (length ds) ds (omega arith))

-- digits behind others, each read to a number that was capped
pub both_read : (m : ℕ) (xs ys : List ℕ) (a b : ℕ) → a ≡ min (digits_value_after 10 0 xs) m → b ≡ min (digits_value_after 10 a ys) m → b ≡ min (digits_value 10 (xs ++ ys)) m
both_read m xs ys a b h k =
    k ∙ (ap (λ n. min (digits_value_after 10 n ys) m) h ∙ (saturated (digits_value 10 xs) m ys ∙ ap (λ n. min n m) (sym (value_append 10 0 xs ys))))

-- without an exponent
pub plain : (w f exponent : List ℕ) (minus : Bool) → length exponent ≡ 0 → rounded (digits_value 10 (w ++ f) * 10 ^ 6) (10 ^ length f) ≡ scaled w f minus exponent
plain w f [] true e = rw (add-zero (length f)) refl
plain w f [] false e = rw (add-zero (length f)) refl
plain w f (x ∷ xs) minus e = absurd (omega arith)
