-- What fits in the arithmetic of a drag.
use Rattle.std.proofs.Common.{ℕ, ◌-◌, ◌^◌, ◌≤◌, ℤ, pos, negsuc, neg_ℤ, ◌+ℤ◌, ◌-ℤ◌, ◌≤ℤ◌, unsigned_abs, arith}
use Rattle.std.proofs.lemmas.Int.{ints, clamps, fits_signed_from_abs}
use mir.Syntax.{w64, w128}
use mir.Val.{SFits}
use Rattle.sensor_plane.specs.Planes.{shifted}

abs_within : (z : ℤ) (n : ℕ) → z ≤ℤ pos n → neg_ℤ (pos n) ≤ℤ z → unsigned_abs z ≤ n
abs_within (pos k) n h l = omega (arith, ints)
abs_within (negsuc k) n h l = omega (arith, ints)

pub wide : (z : ℤ) → SFits w64 z → SFits w128 z
wide (pos k) h = record { sfits = omega arith }
wide (negsuc k) h = record { sfits = omega arith }

pub difference_fits : (a b : ℤ) → SFits w64 a → SFits w64 b → SFits w128 (a -ℤ b)
difference_fits a b f g =
    fits_signed_from_abs w128 (a -ℤ b) (let k : unsigned_abs (a -ℤ b) ≤ 2 ^ 64 - 1 = abs_within (a -ℤ b) (2 ^ 64 - 1) (omega (arith, ints)) (omega (arith, ints)) in omega arith)

pub sum_fits : (a b c : ℤ) → SFits w64 a → SFits w64 b → SFits w64 c → SFits w128 (a -ℤ b +ℤ c)
sum_fits a b c f g h =
    fits_signed_from_abs w128 (a -ℤ b +ℤ c) (let k : unsigned_abs (a -ℤ b +ℤ c) ≤ 2 ^ 65 = abs_within (a -ℤ b +ℤ c) (2 ^ 65) (omega (arith, ints)) (omega (arith, ints)) in omega arith)

pub shifted_fits : (offset start at : ℤ) → SFits w64 (shifted offset start at)
shifted_fits offset start at =
    let z = shifted offset start at in
    fits_signed_from_abs w64 z (let k : unsigned_abs z ≤ 10 ^ 15 = abs_within z (10 ^ 15) (omega (arith, ints, clamps)) (omega (arith, ints, clamps)) in omega arith)
