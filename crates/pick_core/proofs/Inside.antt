-- A box inside another is entered not before it.
use Rattle.std.proofs.Common.{◌≡◌, ℕ, ◌+◌, ◌*◌, ◌<◌, ◌≤◌, ℤ, pos, ◌*ℤ◌, ◌≤ℤ◌, false, refl, Option, Some, None, MatchOption, arith}
use Rattle.std.specs.Int.{int_min, int_max}
use Rattle.std.proofs.lemmas.Int.{ints}
use Rattle.x3d_values.specs.Pointing.{RayView}
use Rattle.pick_rules.specs.Entry.{entry_of}
use Rattle.pick_rules.specs.Hits.{IsCrossed, IsHit, IsMissed, IsEntered}
use Rattle.pick_rules.specs.declared.bounds.Bounds.{Bounds}
use Rattle.pick_rules.specs.declared.bounds.Fraction.{Fraction}
use Rattle.pick_rules.proofs.Entering.{entry-is}
use Rattle.pick_rules.proofs.Fractions.{fraction_trans, mul_parts}
use borrow.Author.Differences.{up, down}
use Rattle.pick_core.specs.Passed.{is_before, enters_as, enters_before, joined}
use Rattle.pick_core.specs.Tree.{IsInside, IsIn}
use Rattle.std.proofs.Math.Nat.{mul-le-mul_right}

-- products keep the order
times_le : (m : ℕ) (a b : ℤ) → a ≤ℤ b → (pos m *ℤ a) ≤ℤ (pos m *ℤ b)
times_le m a b h =
    let k : up a + down b ≤ up b + down a = omega (arith, ints) in
    let w : (up a + down b) * m ≤ (up b + down a) * m = mul-le-mul_right m k in
    omega (arith, ints, mul_parts m a, mul_parts m b)

crossed-inside : (low high low' high' origin dir : ℤ) (n m : ℕ) → low' ≤ℤ low → high ≤ℤ high' → IsCrossed low high origin dir n m → IsCrossed low' high' origin dir n m
crossed-inside low high low' high' origin dir n m l h c =
    let a = times_le m low' low l in
    let b = times_le m high high' h in
    record { above = omega (arith, ints, c.above); below = omega (arith, ints, c.below) }

hit-inside : (b c : Bounds) (ray : RayView) (n m : ℕ) → IsInside b c → IsHit b ray n m → IsHit c ray n m
hit-inside b c ray n m is h = record {
  x = crossed-inside b.low.x b.high.x c.low.x c.high.x ray.origin.x ray.dir.x n m is.low_x is.high_x h.x;
  y = crossed-inside b.low.y b.high.y c.low.y c.high.y ray.origin.y ray.dir.y n m is.low_y is.high_y h.y;
  z = crossed-inside b.low.z b.high.z c.low.z c.high.z ray.origin.z ray.dir.z n m is.low_z is.high_z h.z;
}

-- a place that is not before another is before none that the other isn't before
before-later : (at outer : Fraction) (best : Option Fraction) → 0 < outer.m → 0 < at.m → outer.n * at.m ≤ at.n * outer.m → is_before outer best ≡ false → is_before at best ≡ false
before-later at outer None p q le e = absurd (cc)
before-later at outer (Some best) p q le e =
    let behind : best.n * outer.m ≤ outer.n * best.m = grind arith in
    let later : best.n * at.m ≤ at.n * best.m = fraction_trans best.n best.m outer.n outer.m at.n at.m p behind le in
    grind arith

module _ (b c : Bounds) (ray : RayView) (best : Option Fraction) (is : IsInside b c) where
  passed-as : (inner outer : Option Fraction) → MatchOption inner (IsMissed b ray) (λ (at : Fraction). IsEntered b ray at.n at.m) → MatchOption outer (IsMissed c ray) (λ (at : Fraction). IsEntered c ray at.n at.m) → enters_as outer best ≡ false → enters_as inner best ≡ false
  passed-as None outer p q e = refl
  passed-as (Some at) None p q e = absurd (q at.n at.m p.positive (hit-inside b c ray at.n at.m is p.hit))
  passed-as (Some at) (Some outer) p q e =
      before-later at outer best q.positive p.positive (q.first at.n at.m p.positive (hit-inside b c ray at.n at.m is p.hit)) e

pub passed-inside : (inner outer : Option Bounds) (ray : RayView) (best : Option Fraction) → IsIn inner outer → enters_before outer ray best ≡ false → enters_before inner ray best ≡ false
unfolding enters_before
passed-inside None outer ray best is e = refl
passed-inside (Some b) None ray best is e = absurd is
passed-inside (Some b) (Some c) ray best is e = passed-as b c ray best is (entry_of b ray) (entry_of c ray) (entry-is b ray) (entry-is c ray) e

-- ---- what is inside

inside-self : (b : Bounds) → IsInside b b
inside-self b = record {
  low_x = omega (arith, ints);
  low_y = omega (arith, ints);
  low_z = omega (arith, ints);
  high_x = omega (arith, ints);
  high_y = omega (arith, ints);
  high_z = omega (arith, ints);
}

pub in-trans : (a b c : Option Bounds) → IsIn a b → IsIn b c → IsIn a c
in-trans None b c h k = tt
in-trans (Some a) None c h k = absurd h
in-trans (Some a) (Some b) None h k = absurd k
in-trans (Some a) (Some b) (Some c) h k = record {
  low_x = omega (arith, ints, h.low_x, k.low_x);
  low_y = omega (arith, ints, h.low_y, k.low_y);
  low_z = omega (arith, ints, h.low_z, k.low_z);
  high_x = omega (arith, ints, h.high_x, k.high_x);
  high_y = omega (arith, ints, h.high_y, k.high_y);
  high_z = omega (arith, ints, h.high_z, k.high_z);
}

min-first : (a b : ℤ) → int_min a b ≤ℤ a
min-first a b = grind (arith, ints)

min-second : (a b : ℤ) → int_min a b ≤ℤ b
min-second a b = grind (arith, ints)

max-first : (a b : ℤ) → a ≤ℤ int_max a b
max-first a b = grind (arith, ints)

max-second : (a b : ℤ) → b ≤ℤ int_max a b
max-second a b = grind (arith, ints)

pub in-first : (a b : Option Bounds) → IsIn a (joined a b)
in-first None b = tt
in-first (Some a) None = inside-self a
in-first (Some a) (Some b) = record {
  low_x = min-first a.low.x b.low.x;
  low_y = min-first a.low.y b.low.y;
  low_z = min-first a.low.z b.low.z;
  high_x = max-first a.high.x b.high.x;
  high_y = max-first a.high.y b.high.y;
  high_z = max-first a.high.z b.high.z;
}

pub in-second : (a b : Option Bounds) → IsIn b (joined a b)
in-second None None = tt
in-second None (Some b) = inside-self b
in-second (Some a) None = tt
in-second (Some a) (Some b) = record {
  low_x = min-second a.low.x b.low.x;
  low_y = min-second a.low.y b.low.y;
  low_z = min-second a.low.z b.low.z;
  high_x = max-second a.high.x b.high.x;
  high_y = max-second a.high.y b.high.y;
  high_z = max-second a.high.z b.high.z;
}
