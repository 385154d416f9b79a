-- What fits in the arithmetic of ways.
use Rattle.std.proofs.Common.{ℕ, ◌-◌, ◌^◌, ◌≤◌, ℤ, pos, negsuc, neg_ℤ, ◌+ℤ◌, ◌-ℤ◌, ◌*ℤ◌, ◌≤ℤ◌, unsigned_abs, arith}
use Rattle.std.proofs.lemmas.Int.{ints, fits_signed_mul, fits_signed_from_abs}
use Rattle.std.specs.Int.{int_div_euclid}
use mir.Syntax.{w64, w128}
use mir.Val.{SFits}

abs_within : (z : ℤ) (n : ℕ) → z ≤ℤ pos n → neg_ℤ (pos n) ≤ℤ z → unsigned_abs z ≤ n
abs_within (pos k) n h l = omega (arith, ints)
abs_within (negsuc k) n h l = omega (arith, ints)

-- what fits in 64 bits fits in 128
pub wide : (z : ℤ) → SFits w64 z → SFits w128 z
wide (pos k) h = record { sfits = omega arith }
wide (negsuc k) h = record { sfits = omega arith }

pub difference_fits : (a b : ℤ) → SFits w64 a → SFits w64 b → SFits w128 (a -ℤ b)
difference_fits a b f g =
    let small : unsigned_abs (a -ℤ b) ≤ 2 ^ 64 - 1 = abs_within (a -ℤ b) (2 ^ 64 - 1) (omega (arith, ints)) (omega (arith, ints)) in
    fits_signed_from_abs w128 (a -ℤ b) (omega arith)

pub product_fits : (s a b : ℤ) → SFits w64 s → SFits w64 a → SFits w64 b → SFits w128 (s *ℤ (a -ℤ b))
product_fits s a b e f g =
    let s_small = abs_within s (2 ^ 63) (omega (arith, ints)) (omega (arith, ints)) in
    let way_small = abs_within (a -ℤ b) (2 ^ 64 - 1) (omega (arith, ints)) (omega (arith, ints)) in
    fits_signed_mul w128 s (a -ℤ b) (2 ^ 63) (2 ^ 64 - 1) s_small way_small (omega arith)

pub quotient_small : (p : ℤ) → SFits w128 p → unsigned_abs (int_div_euclid p (pos 1000000)) ≤ 2 ^ 108
quotient_small (pos a) h = omega arith
quotient_small (negsuc a) h = omega arith

pub sum_fits : (t q : ℤ) → SFits w64 t → unsigned_abs q ≤ 2 ^ 108 → SFits w128 (t +ℤ q)
sum_fits t (pos q) e g =
    let small : unsigned_abs (t +ℤ pos q) ≤ 2 ^ 109 = abs_within (t +ℤ pos q) (2 ^ 109) (omega (arith, ints)) (omega (arith, ints)) in
    fits_signed_from_abs w128 (t +ℤ pos q) (omega arith)
sum_fits t (negsuc q) e g =
    let small : unsigned_abs (t +ℤ negsuc q) ≤ 2 ^ 109 = abs_within (t +ℤ negsuc q) (2 ^ 109) (omega (arith, ints)) (omega (arith, ints)) in
    fits_signed_from_abs w128 (t +ℤ negsuc q) (omega arith)
