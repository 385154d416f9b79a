-- The text of a number in the buffer in which it is written.
use Rattle.std.proofs.Common.{◌≡◌, ℕ, zero, suc, ◌+◌, ◌-◌, ◌*◌, ◌/◌, ◌%◌, ◌<◌, ◌≤◌, Bool, true, false, ◌&&◌, T, eqb, ◌==◌, ℤ, pos, negsuc, int_le, unsigned_abs, List, [], ◌∷◌, ◌++◌, length, take, drop, get_or, set, refl, sym, ap, ◌∙◌, inl, inr, arith, eq-zero-or-pos, eqb→eq, length-set, true≢false, Result, Ok, Err}
use Rattle.std.proofs.lemmas.Bool.{ne_eqb, cond-false}
use Rattle.std.proofs.lemmas.List.{drop-set, drop-drop, set_comm, take-append-le}
use Rattle.std.proofs.Math.Seq.{take-append-add}
use Rattle.std.specs.Prelude.{decimal, is_ok, OnOk, if◌then◌else◌}
use lib.Dec.{leb-zero}
use lib.Ieee.Fits.{and_l, and_r}
use Rattle.x3d_numerals.specs.declared.text.TheConstants.{PAIRS}
use Rattle.x3d_numerals.specs.NumberText.{six_digits, without_last_zeros, fraction, fixed_text, number_text}

-- ---- the table of pairs

abbrev are_pairs : ℕ → Bool
are_pairs zero = true
are_pairs (suc p) = (eqb (get_or PAIRS (p * 2) 0) (48 + p / 10) && eqb (get_or PAIRS (p * 2 + 1) 0) (48 + p % 10)) && are_pairs p

below : (n p : ℕ) → T (are_pairs n) → p < n → (get_or PAIRS (p * 2) 0 ≡ 48 + p / 10) × (get_or PAIRS (p * 2 + 1) 0 ≡ 48 + p % 10)
below zero p t h = absurd (omega arith)
below (suc n) p t h =
    elim (eq-zero-or-pos (n - p)) [
      | inl z ↦ let e : p ≡ n = omega arith in let a = and_l _ (are_pairs n) t in rw e (eqb→eq _ _ (and_l _ _ a), eqb→eq _ _ (and_r _ _ a))
      | inr g ↦ below n p (and_r _ (are_pairs n) t) (omega arith)
    ]

pub PAIRS_at : (p : ℕ) → p < 100 → (get_or PAIRS (p * 2) 0 ≡ 48 + p / 10) × (get_or PAIRS (p * 2 + 1) 0 ≡ 48 + p % 10)
PAIRS_at p h = below 100 p tt h

-- two digits in a row
pub two_set : (l : List ℕ) (at a b : ℕ) → at + 2 ≤ length l → drop at (set (set l at a) (at + 1) b) ≡ a ∷ b ∷ drop (at + 2) l
two_set l at a b h =
    let next : at + 1 + 1 ≡ at + 2 = omega arith in
    ap (drop at) (set_comm l at (at + 1) a b (λ x. omega arith))
    ∙ (drop-set (set l (at + 1) b) at a (omega (arith, length-set l (at + 1) b)) ∙ ap (λ t. a ∷ t) (drop-set l (at + 1) b (omega arith) ∙ ap (λ n. b ∷ drop n l) next))

-- ---- the point and six digits

-- three pairs are six digits
pub six : (n : ℕ) (t : List ℕ)
    → (48 + n / 10000 / 10) ∷ (48 + n / 10000 % 10) ∷ (48 + n / 100 % 100 / 10) ∷ (48 + n / 100 % 100 % 10) ∷ (48 + n % 100 / 10) ∷ (48 + n % 100 % 10) ∷ t
    ≡ six_digits n ++ t
six n t =
    let a : n / 10000 / 10 ≡ n / 100000 = omega arith in
    let b : n / 100 % 100 / 10 ≡ n / 1000 % 10 = omega arith in
    let c : n / 100 % 100 % 10 ≡ n / 100 % 10 = omega arith in
    let d : n % 100 / 10 ≡ n / 10 % 10 = omega arith in
    let e : n % 100 % 10 ≡ n % 10 = omega arith in
    rw (a, b, c, d, e) refl

pub six_written : (n : ℕ) (a b c d : List ℕ) → drop 29 b ≡ (48 + n % 100 / 10) ∷ (48 + n % 100 % 10) ∷ drop 31 a
    → drop 27 c ≡ (48 + n / 100 % 100 / 10) ∷ (48 + n / 100 % 100 % 10) ∷ drop 29 b
    → drop 25 d ≡ (48 + n / 10000 / 10) ∷ (48 + n / 10000 % 10) ∷ drop 27 c
    → 46 ∷ drop 25 d ≡ 46 ∷ six_digits n ++ drop 31 a
six_written n a b c d h k l =
    ap (λ t. 46 ∷ t) (l ∙ (ap (λ t. (48 + n / 10000 / 10) ∷ (48 + n / 10000 % 10) ∷ t) (k ∙ ap (λ t. (48 + n / 100 % 100 / 10) ∷ (48 + n / 100 % 100 % 10) ∷ t) h) ∙ six n (drop 31 a)))

-- the six digits behind the point
pub behind_point : (l t : List ℕ) (n : ℕ) → drop 24 l ≡ 46 ∷ six_digits n ++ t → take 6 (drop 25 l) ≡ six_digits n
behind_point l t n e = ap (take 6) (sym (drop-drop 1 24 l)) ∙ ap (λ x. take 6 (drop 1 x)) e

-- the digits up to the last that isn't 0
pub with_point : (l t ds : List ℕ) (n r : ℕ) → drop 24 l ≡ 46 ∷ six_digits n ++ t → ds ≡ six_digits n → take r ds ≡ without_last_zeros ds → r ≤ length ds → (n ≡ 0 → ⊥) → take (25 + r - 24) (drop 24 l) ≡ fraction n
unfolding fraction
with_point l t ds n r e d w h some =
    let long : 25 + r - 24 ≡ suc r = omega arith in
    let short : r ≤ length (six_digits n) = omega (arith, ap length d) in
    let text : take r (six_digits n) ≡ without_last_zeros (six_digits n) = ap (take r) (sym d) ∙ (w ∙ ap without_last_zeros d) in
    ap (λ k. take k (drop 24 l)) long ∙ (ap (take (suc r)) e ∙ (ap (λ x. 46 ∷ x) (take-append-le r (six_digits n) t short ∙ text) ∙ sym (cond-false (n == 0) [] (46 ∷ without_last_zeros (six_digits n)) (ne_eqb n 0 some))))

-- ---- the whole part before it

pub sized : (l k : List ℕ) (size start end : ℕ) → drop start l ≡ decimal (size / 1000000) ++ drop 24 k → start + length (decimal (size / 1000000)) ≡ 24 → 24 ≤ end → take (end - 24) (drop 24 k) ≡ fraction (size % 1000000) → take (end - start) (drop start l) ≡ fixed_text size
unfolding fixed_text
sized l k size start end e s h f =
    let long : end - start ≡ length (decimal (size / 1000000)) + (end - 24) = omega arith in
    ap (take (end - start)) e ∙ (ap (λ n. take n (decimal (size / 1000000) ++ drop 24 k)) long ∙ (take-append-add (decimal (size / 1000000)) (drop 24 k) (end - 24) ∙ ap (λ x. decimal (size / 1000000) ++ x) f))

-- ---- the minus

pub with_minus : (l : List ℕ) (start end : ℕ) → 0 < start → start ≤ end → start ≤ length l → take (end - (start - 1)) (drop (start - 1) (set l (start - 1) 45)) ≡ 45 ∷ take (end - start) (drop start l)
with_minus l start end s h k =
    let long : end - (start - 1) ≡ suc (end - start) = omega arith in
    let next : start - 1 + 1 ≡ start = omega arith in
    ap (take (end - (start - 1))) (drop-set l (start - 1) 45 (omega arith))
    ∙ (ap (λ n. take n (45 ∷ drop (start - 1 + 1) l)) long ∙ ap (λ n. 45 ∷ take (end - start) (drop n l)) next)

pub below_zero : (n : ℤ) (size : ℕ) → int_le (pos 0) n ≡ false → size ≡ unsigned_abs n → 45 ∷ fixed_text size ≡ number_text n
unfolding number_text
below_zero (pos n) size e h = absurd (true≢false (sym (leb-zero n) ∙ e))
below_zero (negsuc n) size e h = let one : size ≡ n + 1 = omega (arith, h) in ap (λ m. 45 ∷ fixed_text m) one

-- what a call appends, if it succeeds
pub appended : {A E : Type 0} → (r : Result A E) (new old other text : List ℕ) → new ≡ (if is_ok r then old ++ other else old) → other ≡ text → OnOk r (new ≡ old ++ text)
appended (Ok x) new old other text e h = e ∙ ap (λ t. old ++ t) h
appended (Err x) new old other text e h = tt
