-- What is left of a time after whole cycles, and times from their tests.
use Rattle.std.proofs.Common.{◌≡◌, ℕ, ◌-◌, ◌*◌, ◌/◌, ◌%◌, ◌^◌, ◌≤◌, ◌<◌, ℤ, pos, negsuc, ◌≤ℤ◌, ◌<ℤ◌, int_le, int_lt, unsigned_abs, true, subst, arith, le-leb, leb-true}
use Rattle.std.specs.Int.{int_div_euclid, int_rem_euclid}
use Rattle.std.proofs.lemmas.Int.{ints}
use Rattle.byte_codec.proofs.Laws.{both}
use Rattle.sensor_core.specs.Timing.{is_time}
use Rattle.react_core.proofs.PartLemmas.{quotient_small}
use Rattle.snapshot_codec.specs.Trace.{is_moment}
use Rattle.snapshot_codec.specs.Values.{is_within}

-- ---- a tick

mod_small : (a b : ℕ) → 0 < b → a % b < b
mod_small a b h = grind arith

mod_le : (a b : ℕ) → 0 < b → a % b ≤ a
mod_le a b h = grind arith

div_le : (a b : ℕ) → 0 < b → a / b ≤ a
div_le a b h = grind arith

pub part_small : (r d : ℕ) → r < d → r * 1000000 / d ≤ 1000000
part_small r d h =
    let e : 1000000 * r ≡ r * 1000000 = omega arith in
    subst (λ (n : ℕ). n / d ≤ 1000000) e (quotient_small 1000000 r d (omega arith) (omega arith))

positive_size : (n : ℕ) → pos 0 <ℤ pos n → 0 < n
positive_size n h = omega (arith, ints)

-- the remainder of a time, and the quotient of one that isn't before
pub remainder : (z interval : ℤ) → pos 0 <ℤ interval → (pos 0 ≤ℤ int_rem_euclid z interval) × (unsigned_abs (int_rem_euclid z interval) < unsigned_abs interval)
remainder (pos a) (pos b) h = (omega (arith, ints), mod_small a b (positive_size b h))
remainder (negsuc a) (pos b) h = let s = positive_size b h in (omega (arith, ints), omega arith)
remainder (pos a) (negsuc b) h = absurd (omega (arith, ints))
remainder (negsuc a) (negsuc b) h = absurd (omega (arith, ints))

pub remainder_le : (z interval : ℤ) → pos 0 ≤ℤ z → pos 0 <ℤ interval → int_rem_euclid z interval ≤ℤ z
remainder_le (pos a) (pos b) p h = let s = mod_le a b (positive_size b h) in omega (arith, ints)
remainder_le (negsuc a) interval p h = absurd (omega (arith, ints))
remainder_le (pos a) (negsuc b) p h = absurd (omega (arith, ints))

pub quotient_le : (z interval : ℤ) → pos 0 ≤ℤ z → pos 0 <ℤ interval → unsigned_abs (int_div_euclid z interval) ≤ unsigned_abs z
quotient_le (pos a) (pos b) p h = div_le a b (positive_size b h)
quotient_le (negsuc a) interval p h = absurd (omega (arith, ints))
quotient_le (pos a) (negsuc b) p h = absurd (omega (arith, ints))

pub not_before : (z interval : ℤ) (c : ℕ) → pos 0 <ℤ interval → pos c <ℤ int_div_euclid z interval → pos 0 ≤ℤ z
not_before (pos a) interval c h l = omega (arith, ints)
not_before (negsuc a) (pos b) c h l = absurd (omega (arith, ints, l))
not_before (negsuc a) (negsuc b) c h l = absurd (omega (arith, ints, h))

-- a time from a test, and a test from a time
pub time_low : (z : ℤ) → is_time z ≡ true → (negsuc (10 ^ 18 - 1) ≤ℤ z) × (z ≤ℤ pos (10 ^ 18))
time_low z e = let l = leb-true (unsigned_abs z) (10 ^ 18) e in (omega (arith, ints, l), omega (arith, ints, l))

pub time_is : (z : ℤ) → negsuc (10 ^ 18 - 1) ≤ℤ z → z ≤ℤ pos (10 ^ 18) → is_within (10 ^ 18) z ≡ true
time_is z l h = le-leb (unsigned_abs z) (10 ^ 18) (omega (arith, ints, l, h))

pub moment_is : (t : ℤ) → is_moment t ≡ true → (pos 0 ≤ℤ t) × (t ≤ℤ pos (10 ^ 18))
moment_is t e = let b = both (int_le (pos 0) t) (int_le t (pos (10 ^ 18))) e in (le_of _ _ b.0, le_of _ _ b.1)
  where
    le_of : (x y : ℤ) → int_le x y ≡ true → x ≤ℤ y
    le_of x y h = grind (arith, ints)

pub lt_of : (x y : ℤ) → int_lt x y ≡ true → x <ℤ y
lt_of x y h = grind (arith, ints)
