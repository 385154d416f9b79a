-- Sets of viewers as numbers.
use Rattle.std.proofs.Common.{◌≡◌, ◌∙◌, refl, ap, ℕ, suc, ◌+◌, ◌-◌, ◌*◌, ◌^◌, ◌<◌, ◌≤◌, Bool, true, false, List, ◌∷◌, drop, get_or, length, arith}
use Rattle.std.proofs.Math.Nat.{pow-suc}
use Rattle.std.proofs.Math.Seq.{drop-cons}
use mir.Val.{bool_byte}
use Rattle.sensor_core.specs.Parts.{bit_of, number_of}

pub byte_bit : (b : Bool) → bool_byte b ≡ bit_of b
byte_bit true = refl
byte_bit false = refl

pub bit_small : (b : Bool) → bit_of b ≤ 1
bit_small true = omega arith
bit_small false = omega arith

-- the number of one viewer more, at the front
pub number_of-drop : (set : List Bool) (left : ℕ) → 0 < left → left ≤ length set → number_of (drop (left - 1) set) ≡ 2 * number_of (drop left set) + bit_of (get_or set (left - 1) false)
number_of-drop set left some within =
    let front : suc (left - 1) ≡ left = omega (arith, some) in
    let e : drop (left - 1) set ≡ get_or set (left - 1) false ∷ drop (suc (left - 1)) set = drop-cons set (left - 1) false (omega (arith, some, within)) in
    ap number_of (e ∙ ap (λ k. get_or set (left - 1) false ∷ drop k set) front) ∙ omega arith

-- it has one bit more
pub one_more_bit : (viewers number bit left : ℕ) → 0 < left → left ≤ viewers → bit ≤ 1 → number + 1 ≤ 2 ^ (viewers - left) → 2 * number + bit + 1 ≤ 2 ^ (viewers - (left - 1))
one_more_bit viewers number bit left some most small below =
    let size : viewers - (left - 1) ≡ suc (viewers - left) = omega (arith, some, most) in
    rw (size, pow-suc 2 (viewers - left)) (omega (arith, small, below))
