-- A part of a way isn't longer than the way.
use Rattle.std.proofs.Common.{◌≡◌, ◌≢◌, ◌∙◌, ap, sym, subst, ℕ, zero, suc, ◌+◌, ◌-◌, ◌*◌, ◌/◌, ◌<◌, ◌≤◌, ℤ, pos, negsuc, ◌+ℤ◌, ◌-ℤ◌, ◌*ℤ◌, ◌≤ℤ◌, ◌<ℤ◌, neg_ℤ, unsigned_abs, arith}
use Rattle.std.proofs.lemmas.Int.{ints}
use Rattle.std.specs.Int.{int_div_euclid}

pub quotient_small : (d part whole : ℕ) → part ≤ whole → 0 < whole → d * part / whole ≤ d
quotient_small d part whole h p = grind arith

pub is_up : (from to : ℤ) → from ≤ℤ to → (to -ℤ from) ≡ pos (unsigned_abs (to -ℤ from))
is_up from to h = omega (arith, ints)

pub is_up_within : (from to : ℤ) (part whole d : ℕ) → from ≤ℤ to → d ≡ unsigned_abs (to -ℤ from) → part ≤ whole → 0 < whole → (from +ℤ pos (d * part / whole)) ≤ℤ to
is_up_within from to part whole d h e q p =
    let small = quotient_small d part whole q p in
    omega (arith, ints)

neg_div : (m whole : ℕ) → m ≢ 0 → int_div_euclid (neg_ℤ (pos m)) (pos whole) ≡ negsuc ((m - 1) / whole)
neg_div zero whole q = absurd (omega arith)
neg_div (suc m) whole q = let e : m ≡ suc m - 1 = omega arith in ap (λ k. negsuc (k / whole)) e

-- a way down of d, of which a part is left
pub down_part : (z : ℤ) (d part whole : ℕ) → z <ℤ pos 0 → d ≡ unsigned_abs z → d * part ≢ 0 → int_div_euclid (z *ℤ pos part) (pos whole) ≡ negsuc ((d * part - 1) / whole)
down_part (pos n) d part whole h e q = absurd (omega (arith, ints))
down_part (negsuc n) d zero whole h e q = absurd (omega arith)
down_part (negsuc n) d (suc part) whole h e q =
    subst (λ k. int_div_euclid (neg_ℤ (pos (k * suc part))) (pos whole) ≡ negsuc ((d * suc part - 1) / whole)) e (neg_div (d * suc part) whole q)

pub quotient_below : (d part whole : ℕ) → part ≤ whole → 0 < whole → d * part ≢ 0 → (d * part - 1) / whole < d
quotient_below d part whole h p q = grind arith

pub is_down_within : (from to : ℤ) (part whole d : ℕ) → (to -ℤ from) <ℤ pos 0 → d ≡ unsigned_abs (to -ℤ from) → part ≤ whole → 0 < whole → d * part ≢ 0
    → to ≤ℤ (from +ℤ negsuc ((d * part - 1) / whole))
is_down_within from to part whole d h e q p n =
    let small = quotient_below d part whole q p n in
    omega (arith, ints)

-- a way up of d
pub up_part : (from to : ℤ) (d part whole : ℕ) → from ≤ℤ to → d ≡ unsigned_abs (to -ℤ from) → int_div_euclid ((to -ℤ from) *ℤ pos part) (pos whole) ≡ pos (d * part / whole)
up_part from to d part whole h e =
    ap (λ z. int_div_euclid (z *ℤ pos part) (pos whole)) (is_up from to h) ∙ ap (λ k. pos (k * part / whole)) (sym e)

-- the vectors of an item are among those of all keys
pub group_within : (item keys many len : ℕ) → many ≡ len / keys → item < keys → item * many + many ≤ len
group_within item keys many len e h = grind arith
