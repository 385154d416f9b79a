-- The order of fractions, and products of whole numbers.
use Rattle.std.proofs.Common.{◌≡◌, ℕ, ◌+◌, ◌*◌, ◌<◌, ◌≤◌, ℤ, pos, negsuc, ◌+ℤ◌, ◌*ℤ◌, ◌≤ℤ◌, ◌<ℤ◌, ap, refl, unsigned_abs, arith}
use Rattle.std.proofs.Math.Nat.{mul-le-mul_right, le_of_mul-le-mul_right}
use Rattle.std.proofs.lemmas.Int.{ints}
use borrow.Author.Differences.{up, down}
use Rattle.pick_rules.specs.Hits.{IsCrossed}

-- a / b is not after c / d, which is not after e / f
pub fraction_trans : (a b c d e f : ℕ) → 0 < d → a * d ≤ c * b → c * f ≤ e * d → a * f ≤ e * b
fraction_trans a b c d e f p h k =
    let x : (a * d) * f ≤ (c * b) * f = mul-le-mul_right f h in
    let y : (c * f) * b ≤ (e * d) * b = mul-le-mul_right b k in
    let z : (a * f) * d ≤ (e * b) * d = omega arith in
    le_of_mul-le-mul_right z p

-- a whole number as a difference, times m
pub mul_parts : (m : ℕ) (z : ℤ) → up (pos m *ℤ z) + m * down z ≡ down (pos m *ℤ z) + m * up z
mul_parts m (pos k) = omega (arith, ints)
mul_parts m (negsuc k) = omega (arith, ints)

-- products are sums over sums
times_sum : (m : ℕ) (a b d : ℤ) → a ≡ b +ℤ d → pos m *ℤ a ≡ pos m *ℤ b +ℤ pos m *ℤ d
times_sum m a b d e =
    let k : up a + down b + down d ≡ down a + up b + up d = omega (arith, ints) in
    let km : m * (up a + down b + down d) ≡ m * (down a + up b + up d) = ap (λ x. m * x) k in
    omega (arith, ints, mul_parts m a, mul_parts m b, mul_parts m d)

-- the part of the way between the two sides
pub record IsBetween (near far : ℤ) (s n m : ℕ) : Type 0 where
  pub past : (pos m *ℤ near) ≤ℤ pos (n * s)
  pub before : pos (n * s) ≤ℤ (pos m *ℤ far)

slope_forward : (n : ℕ) (d : ℤ) → pos 0 ≤ℤ d → pos n *ℤ d ≡ pos (n * unsigned_abs d)
slope_forward n (pos k) h = refl
slope_forward n (negsuc k) h = absurd (omega (arith, ints))

pub slope_backward : (n : ℕ) (d : ℤ) → d <ℤ pos 0 → pos n *ℤ d +ℤ pos (n * unsigned_abs d) ≡ pos 0
slope_backward n (pos k) h = absurd (omega (arith, ints))
slope_backward n (negsuc k) h = omega (arith, ints, mul_parts n (negsuc k))

pub forward_between : (low high origin d near far : ℤ) (n m : ℕ) → pos 0 ≤ℤ d → low ≡ origin +ℤ near → high ≡ origin +ℤ far → IsCrossed low high origin d n m → IsBetween near far (unsigned_abs d) n m
forward_between low high origin d near far n m h a b c =
    let s = slope_forward n d h in
    let x = times_sum m low origin near a in
    let y = times_sum m high origin far b in
    record { past = omega (arith, ints, c.above); before = omega (arith, ints, c.below) }

pub between_forward : (low high origin d near far : ℤ) (n m : ℕ) → pos 0 ≤ℤ d → low ≡ origin +ℤ near → high ≡ origin +ℤ far → IsBetween near far (unsigned_abs d) n m → IsCrossed low high origin d n m
between_forward low high origin d near far n m h a b c =
    let s = slope_forward n d h in
    let x = times_sum m low origin near a in
    let y = times_sum m high origin far b in
    record { above = omega (arith, ints, c.past); below = omega (arith, ints, c.before) }

pub backward_between : (low high origin d near far : ℤ) (n m : ℕ) → d <ℤ pos 0 → origin ≡ high +ℤ near → origin ≡ low +ℤ far → IsCrossed low high origin d n m → IsBetween near far (unsigned_abs d) n m
backward_between low high origin d near far n m h a b c =
    let s = slope_backward n d h in
    let x = times_sum m origin high near a in
    let y = times_sum m origin low far b in
    record { past = omega (arith, ints, c.below); before = omega (arith, ints, c.above) }

pub between_backward : (low high origin d near far : ℤ) (n m : ℕ) → d <ℤ pos 0 → origin ≡ high +ℤ near → origin ≡ low +ℤ far → IsBetween near far (unsigned_abs d) n m → IsCrossed low high origin d n m
between_backward low high origin d near far n m h a b c =
    let s = slope_backward n d h in
    let x = times_sum m origin high near a in
    let y = times_sum m origin low far b in
    record { above = omega (arith, ints, c.before); below = omega (arith, ints, c.past) }
