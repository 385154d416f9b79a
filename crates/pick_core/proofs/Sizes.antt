-- What fits in the arithmetic of a ray that meets a plane.
use Rattle.std.proofs.Common.{◌-◌, ◌^◌, ◌≤◌, ℤ, ◌-ℤ◌, ◌*ℤ◌, unsigned_abs, arith, mul-le-mul}
use Rattle.std.proofs.lemmas.Int.{ints, unsigned_abs-mul}
use mir.Syntax.{w64}
use mir.Val.{SFits}
use Rattle.pick_rules.proofs.Wide.{abs_within}

-- a part of a direction times a difference of heights
pub product_small : (s a b : ℤ) → SFits w64 s → SFits w64 a → SFits w64 b → unsigned_abs (s *ℤ (a -ℤ b)) ≤ 2 ^ 127 - 2 ^ 63
product_small s a b e f g =
    let m : unsigned_abs s ≤ 2 ^ 63 = abs_within s (2 ^ 63) (omega (arith, ints)) (omega (arith, ints)) in
    let n : unsigned_abs (a -ℤ b) ≤ 2 ^ 64 - 1 = abs_within (a -ℤ b) (2 ^ 64 - 1) (omega (arith, ints)) (omega (arith, ints)) in
    omega (arith, unsigned_abs-mul s (a -ℤ b), mul-le-mul m n)
