-- What fits in the arithmetic of transforms.
use Rattle.std.proofs.Common.{◌≡◌, ℕ, zero, suc, ◌∙◌, ◌*◌, ◌/◌, ◌-◌, ◌^◌, ◌<◌, ◌≤◌, ℤ, pos, negsuc, neg_ℤ, ◌+ℤ◌, ◌-ℤ◌, ◌*ℤ◌, ap, sym, subst, unsigned_abs, arith, div-le_self, mul-le-mul}
use Rattle.std.proofs.lemmas.Int.{ints, clamps, fits_signed_mul, fits_signed_from_abs, unsigned_abs-mul}
use Rattle.std.specs.Int.{int_div_euclid}
use mir.Syntax.{w64, w128}
use mir.Val.{Fits, SFits, to_z}
use mir.ValLaws.{to_z_pos}
use Rattle.pick_core.specs.Motion.{clamped, half}
pub use Rattle.pick_rules.proofs.Wide.{abs_within, wide, difference_fits}

pub product_fits : (s a b : ℤ) → SFits w64 s → SFits w64 a → SFits w64 b → SFits w128 (s *ℤ (a -ℤ b))
product_fits s a b e f g =
    fits_signed_mul w128 s (a -ℤ b) (2 ^ 63) (2 ^ 64 - 1) (abs_within s (2 ^ 63) (omega (arith, ints)) (omega (arith, ints))) (abs_within (a -ℤ b) (2 ^ 64 - 1) (omega (arith, ints)) (omega (arith, ints))) (omega arith)

pub quotient_small : (p : ℤ) → SFits w128 p → unsigned_abs (int_div_euclid p (pos 1000000)) ≤ 2 ^ 108
quotient_small (pos a) h = omega arith
quotient_small (negsuc a) h = omega arith

pub sum_fits : (t c q : ℤ) → SFits w64 t → SFits w64 c → unsigned_abs q ≤ 2 ^ 108 → SFits w128 (t +ℤ c +ℤ q)
sum_fits t c (pos q) e f g = fits_signed_from_abs w128 (t +ℤ c +ℤ pos q) (let k : unsigned_abs (t +ℤ c +ℤ pos q) ≤ 2 ^ 109 = abs_within (t +ℤ c +ℤ pos q) (2 ^ 109) (omega (arith, ints)) (omega (arith, ints)) in omega arith)
sum_fits t c (negsuc q) e f g = fits_signed_from_abs w128 (t +ℤ c +ℤ negsuc q) (let k : unsigned_abs (t +ℤ c +ℤ negsuc q) ≤ 2 ^ 109 = abs_within (t +ℤ c +ℤ negsuc q) (2 ^ 109) (omega (arith, ints)) (omega (arith, ints)) in omega arith)

pub short_fits : (z : ℤ) → unsigned_abs z < 2 ^ 63 → SFits w64 z
short_fits z h = fits_signed_from_abs w64 z (omega arith)

below_zero : (n whole : ℕ) → 0 < n → int_div_euclid (neg_ℤ (pos n)) (pos whole) ≡ negsuc ((n - 1) / whole)
below_zero zero whole h = absurd (omega arith)
below_zero (suc n) whole h = let e : n ≡ suc n - 1 = omega arith in ap (λ k. negsuc (k / whole)) e

-- what the scale 1 leaves as it is
pub unscaled : (z : ℤ) → int_div_euclid (pos 1000000 *ℤ z) (pos 1000000) ≡ z
unscaled (pos n) = let e : 1000000 * n / 1000000 ≡ n = omega arith in ap pos e
unscaled (negsuc n) =
    let e : (1000000 * suc n - 1) / 1000000 ≡ n = omega arith in
    below_zero (1000000 * suc n) 1000000 (omega arith) ∙ ap negsuc e

pub clamped_fits : (z : ℤ) → SFits w64 (clamped z)
clamped_fits z = fits_signed_from_abs w64 (clamped z) (let k : unsigned_abs (clamped z) ≤ 10 ^ 15 = abs_within (clamped z) (10 ^ 15) (omega (arith, ints, clamps)) (omega (arith, ints, clamps)) in omega arith)

pub half_turned : (z q : ℤ) → q ≡ half z → pos 0 -ℤ q ≡ neg_ℤ (half z)
half_turned z q e = omega (arith, ints, ap neg_ℤ e)

half_small : (z : ℤ) → SFits w64 z → unsigned_abs (half z) ≤ 2 ^ 62
half_small (pos a) h = omega arith
half_small (negsuc a) h = omega arith

turned_fits : (q : ℤ) → unsigned_abs q ≤ 2 ^ 62 → SFits w64 (pos 0 -ℤ q)
turned_fits (pos q) h = fits_signed_from_abs w64 (pos 0 -ℤ pos q) (let k : unsigned_abs (pos 0 -ℤ pos q) ≤ 2 ^ 62 = abs_within (pos 0 -ℤ pos q) (2 ^ 62) (omega (arith, ints)) (omega (arith, ints)) in omega arith)
turned_fits (negsuc q) h = fits_signed_from_abs w64 (pos 0 -ℤ negsuc q) (let k : unsigned_abs (pos 0 -ℤ negsuc q) ≤ 2 ^ 62 = abs_within (pos 0 -ℤ negsuc q) (2 ^ 62) (omega (arith, ints)) (omega (arith, ints)) in omega arith)

pub half_fits : (z q : ℤ) → SFits w64 z → q ≡ half z → SFits w64 (pos 0 -ℤ q)
half_fits z q f e = turned_fits q (subst (λ x. unsigned_abs x ≤ 2 ^ 62) (sym e) (half_small z f))

-- ---- a point in the coordinates inside a transform

pub count_is : (n : ℕ) → Fits w64 n → to_z w128 n ≡ pos n
count_is n h = to_z_pos w128 n (omega arith)

pub direction_fits : (n : ℕ) (dir : ℤ) → Fits w64 n → SFits w64 dir → SFits w128 (pos n *ℤ dir)
direction_fits n dir h f = fits_signed_mul w128 (pos n) dir (2 ^ 64 - 1) (2 ^ 63) (omega arith) (abs_within dir (2 ^ 63) (omega (arith, ints)) (omega (arith, ints))) (omega arith)

direction_small : (n : ℕ) (dir : ℤ) → Fits w64 n → SFits w64 dir → unsigned_abs (pos n *ℤ dir) ≤ 2 ^ 127 - 2 ^ 63
direction_small n dir h f =
    let d : unsigned_abs dir ≤ 2 ^ 63 = abs_within dir (2 ^ 63) (omega (arith, ints)) (omega (arith, ints)) in
    let m : n ≤ 2 ^ 64 - 1 = omega arith in
    omega (arith, unsigned_abs-mul (pos n) dir, mul-le-mul m d)

quotient_within : (z : ℤ) (m k : ℕ) → unsigned_abs z ≤ k → unsigned_abs (int_div_euclid z (pos m)) ≤ k
quotient_within (pos a) m k h = omega (arith, div-le_self a m)
quotient_within (negsuc a) m k h = omega (arith, div-le_self a m)

pub way_small : (n m : ℕ) (dir way : ℤ) → Fits w64 n → SFits w64 dir → way ≡ int_div_euclid (pos n *ℤ dir) (pos m) → unsigned_abs way ≤ 2 ^ 127 - 2 ^ 63
way_small n m dir way h f e =
    subst (λ z. unsigned_abs z ≤ 2 ^ 127 - 2 ^ 63) (sym e) (quotient_within (pos n *ℤ dir) m (2 ^ 127 - 2 ^ 63) (direction_small n dir h f))

pub way_fits : (origin way : ℤ) → SFits w64 origin → unsigned_abs way ≤ 2 ^ 127 - 2 ^ 63 → SFits w128 (origin +ℤ way)
way_fits (pos o) (pos w) f h = record { sfits = (let k : o < 2 ^ 63 = f.sfits in omega arith) }
way_fits (negsuc o) (negsuc w) f h = record { sfits = (let k : o < 2 ^ 63 = f.sfits in omega arith) }
way_fits (pos o) (negsuc w) f h =
    let l : o < 2 ^ 63 = f.sfits in
    fits_signed_from_abs w128 (pos o +ℤ negsuc w) (let k : unsigned_abs (pos o +ℤ negsuc w) ≤ 2 ^ 127 - 1 = abs_within (pos o +ℤ negsuc w) (2 ^ 127 - 1) (omega (arith, ints)) (omega (arith, ints)) in omega arith)
way_fits (negsuc o) (pos w) f h =
    let l : o < 2 ^ 63 = f.sfits in
    fits_signed_from_abs w128 (negsuc o +ℤ pos w) (let k : unsigned_abs (negsuc o +ℤ pos w) ≤ 2 ^ 127 - 1 = abs_within (negsuc o +ℤ pos w) (2 ^ 127 - 1) (omega (arith, ints)) (omega (arith, ints)) in omega arith)

pub two_small : (a t c : ℤ) → SFits w64 a → SFits w64 t → SFits w64 c → unsigned_abs (a -ℤ t -ℤ c) ≤ 2 ^ 65
two_small a t c e f g = abs_within (a -ℤ t -ℤ c) (2 ^ 65) (omega (arith, ints)) (omega (arith, ints))

pub two_fits : (a t c : ℤ) → SFits w64 a → SFits w64 t → SFits w64 c → SFits w128 (a -ℤ t -ℤ c)
two_fits a t c e f g = fits_signed_from_abs w128 (a -ℤ t -ℤ c) (let k = two_small a t c e f g in omega arith)

pub away_fits : (a t c : ℤ) → SFits w64 a → SFits w64 t → SFits w64 c → SFits w128 ((a -ℤ t -ℤ c) *ℤ pos 1000000)
away_fits a t c e f g =
    fits_signed_mul w128 (a -ℤ t -ℤ c) (pos 1000000) (2 ^ 65) 1000000 (two_small a t c e f g) (omega arith) (omega arith)
