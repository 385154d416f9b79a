-- What fits in the arithmetic of sides.
use Rattle.std.proofs.Common.{ℕ, ◌-◌, ◌^◌, ◌≤◌, ℤ, pos, negsuc, neg_ℤ, ◌-ℤ◌, ◌≤ℤ◌, unsigned_abs, arith}
use Rattle.std.proofs.lemmas.Int.{ints, fits_signed_from_abs, to_z-of_z}
use mir.Syntax.{w64, w128}
use mir.Val.{SFits}

pub abs_within : (z : ℤ) (n : ℕ) → z ≤ℤ pos n → neg_ℤ (pos n) ≤ℤ z → unsigned_abs z ≤ n
abs_within (pos k) n h l = omega (arith, ints)
abs_within (negsuc k) n h l = omega (arith, ints)

pub wide : (z : ℤ) → SFits w64 z → SFits w128 z
wide (pos k) h = record { sfits = omega arith }
wide (negsuc k) h = record { sfits = omega arith }

pub difference_fits : (a b : ℤ) → SFits w64 a → SFits w64 b → SFits w128 (a -ℤ b)
difference_fits a b f g =
    fits_signed_from_abs w128 (a -ℤ b) (let k : unsigned_abs (a -ℤ b) ≤ 2 ^ 64 - 1 = abs_within (a -ℤ b) (2 ^ 64 - 1) (omega (arith, ints)) (omega (arith, ints)) in omega arith)

-- a signed number that was handed on is the number
pub ruleset passed = (to_z-of_z)
