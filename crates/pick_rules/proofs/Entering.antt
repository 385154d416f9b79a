-- Where a ray enters a box is where it hits it first.
use Rattle.std.proofs.Common.{◌≡◌, ℕ, zero, suc, ◌*◌, ◌<◌, ◌≤◌, inl, inr, ℤ, pos, negsuc, ◌-ℤ◌, ◌≤ℤ◌, ◌<ℤ◌, Bool, true, false, ◌&&◌, refl, subst, unsigned_abs, int_lt, Option, Some, None, MatchOption, if◌then◌else◌, arith}
use Rattle.std.specs.Prelude.{nat_le, ◌==◌}
use Rattle.std.specs.Option.{option_and_then}
use Rattle.std.proofs.lemmas.Int.{ints}
use Rattle.std.proofs.lemmas.Nat.{mul-le}
use Rattle.x3d_values.specs.Pointing.{RayView}
use Rattle.pick_rules.specs.Entry.{from_0, span_at, span_of, push_of, is_before, last_pushed, if_before, first_within, joined, spans_of, entry_of}
use Rattle.pick_rules.specs.Hits.{IsMissed, IsEntered}
use Rattle.pick_rules.specs.declared.bounds.Bounds.{Bounds}
use Rattle.pick_rules.specs.declared.bounds.Fraction.{Fraction}
use Rattle.pick_rules.specs.declared.crossing.Stretch.{Stretch}
use Rattle.pick_rules.specs.declared.crossing.Spans.{Spans}
use Rattle.pick_rules.proofs.Spans.{IsSpan, IsPushed, IsPush, AreSpans, IsNever, IsFirstWithin, Forward, Backward, between, behind_all, IsNear, span_in, span_out, pushed_within, pushed_before}

near-is : (z : ℤ) → IsNear z (from_0 z)
near-is (pos n) = inl refl
near-is (negsuc n) = inr (omega (arith, ints), refl)

far-is : (z : ℤ) → pos 0 ≤ℤ z → z ≡ pos (from_0 z)
far-is (pos n) h = refl
far-is (negsuc n) h = absurd (omega (arith, ints))

-- sides that lie so far ahead
at-is : (low high origin d near far : ℤ) → Forward low high origin d near far → Backward low high origin d near far → IsSpan low high origin d (span_at near far (unsigned_abs d))
unfolding span_at
at-is low high origin d near far f b = cases (int_lt far (pos 0)) refl
  where
    cases : (t : Bool) → int_lt far (pos 0) ≡ t → IsSpan low high origin d (if t then None else Some (record { near = from_0 near; far = from_0 far; slope = unsigned_abs d }))
    cases true e = λ n m p c.
        let behind : far <ℤ pos 0 = grind (arith, ints) in
        behind_all far (unsigned_abs d) n m behind p (between low high origin d near far f b n m c).before
    cases false e = λ n m p.
        let ahead : pos 0 ≤ℤ far = grind (arith, ints) in (
          span_in low high origin d near far f b (from_0 near) (from_0 far) (near-is near) (far-is far ahead) n m,
          span_out low high origin d near far f b (from_0 near) (from_0 far) (near-is near) (far-is far ahead) n m,
        )

span-is : (low high origin d : ℤ) → IsSpan low high origin d (span_of low high origin d)
unfolding span_of
span-is low high origin d = cases (int_lt d (pos 0)) refl
  where
    cases : (t : Bool) → int_lt d (pos 0) ≡ t → IsSpan low high origin d (if t then span_at (origin -ℤ high) (origin -ℤ low) (unsigned_abs d) else span_at (low -ℤ origin) (high -ℤ origin) (unsigned_abs d))
    cases true e =
        let back : d <ℤ pos 0 = grind (arith, ints) in
        at-is low high origin d (origin -ℤ high) (origin -ℤ low) (λ h. absurd (omega (arith, ints))) (λ h. (omega (arith, ints), omega (arith, ints)))
    cases false e =
        let ahead : pos 0 ≤ℤ d = grind (arith, ints) in
        at-is low high origin d (low -ℤ origin) (high -ℤ origin) (λ h. (omega (arith, ints), omega (arith, ints))) (λ h. absurd (omega (arith, ints)))

never_none : (a b c : ℕ) → 0 < c → 0 < b * a → c * a ≤ 0 → ⊥
never_none zero b c q h k = omega arith
never_none (suc a) b c q h k =
    let w : 1 * 1 ≤ c * suc a = mul-le 1 1 c (suc a) q (omega arith) in omega arith

push-is : (from : Fraction) (near slope : ℕ) → 0 < from.m → IsPush from near slope (push_of from near slope)
unfolding push_of
push-is from near slope p = cases (nat_le (from.m * near) (from.n * slope)) refl
  where
    ahead : from.n * slope < from.m * near → (t : Bool) → (slope == 0) ≡ t → IsPush from near slope (if t then None else Some (record { n = near; m = slope }))
    ahead h true e = λ n m q past.
        let none : slope ≡ 0 = grind arith in
        let small : m * near ≤ n * 0 = subst (λ s. m * near ≤ n * s) none past in
        let far : from.n * 0 < from.m * near = subst (λ s. from.n * s < from.m * near) none h in
        never_none near from.m m q (omega arith) (omega arith)
    ahead h false e = record {
      positive = grind arith;
      past = omega arith;
      forward = omega arith;
      first = λ n m q k past. omega arith;
    }

    cases : (t : Bool) → nat_le (from.m * near) (from.n * slope) ≡ t → IsPush from near slope (if t then Some from else (if slope == 0 then None else Some (record { n = near; m = slope })))
    cases true e = record {
      positive = p;
      past = grind arith;
      forward = omega arith;
      first = λ n m q k past. k;
    }
    cases false e = ahead (grind arith) (slope == 0) refl

-- the three near sides in turn
module _ (s : Spans) where
  abbrev is_last : Option Fraction → Type 0
  is_last None = IsNever s
  is_last (Some r) = (p q : Fraction) × IsPushed (record { n = 0; m = 1 }) s.x.near s.x.slope p × IsPushed p s.y.near s.y.slope q × IsPushed q s.z.near s.z.slope r

  last-third : (p q : Fraction) → IsPushed (record { n = 0; m = 1 }) s.x.near s.x.slope p → IsPushed p s.y.near s.y.slope q → (to : Option Fraction) → IsPush q s.z.near s.z.slope to → is_last to
  last-third p q one two None never = λ n m h w. never n m h w.z_past
  last-third p q one two (Some r) three = (p, q, one, two, three)

  last-second : (p : Fraction) → IsPushed (record { n = 0; m = 1 }) s.x.near s.x.slope p → (to : Option Fraction) → IsPush p s.y.near s.y.slope to → is_last (option_and_then (λ (y : Fraction). push_of y s.z.near s.z.slope) to)
  last-second p one None never = λ n m h w. never n m h w.y_past
  last-second p one (Some q) two = last-third p q one two (push_of q s.z.near s.z.slope) (push-is q s.z.near s.z.slope two.positive)

  last-first : (to : Option Fraction) → IsPush (record { n = 0; m = 1 }) s.x.near s.x.slope to → is_last (option_and_then (λ (x : Fraction). option_and_then (λ (y : Fraction). push_of y s.z.near s.z.slope) (push_of x s.y.near s.y.slope)) to)
  last-first None never = λ n m h w. never n m h w.x_past
  last-first (Some p) one = last-second p one (push_of p s.y.near s.y.slope) (push-is p s.y.near s.y.slope one.positive)

  last-is : is_last (last_pushed s)
  unfolding last_pushed
  last-is = last-first (push_of (record { n = 0; m = 1 }) s.x.near s.x.slope) (push-is (record { n = 0; m = 1 }) s.x.near s.x.slope (omega arith))

  before-cases : (a b c : Bool) → (a && (b && c)) ≡ true → (a ≡ true) × (b ≡ true) × (c ≡ true)
  before-cases true true true h = (refl, refl, refl)
  before-cases true true false h = absurd (cc)
  before-cases true false c h = absurd (cc)
  before-cases false b c h = absurd (cc)

  before-all : (a b c : Bool) → a ≡ true → b ≡ true → c ≡ true → (a && (b && c)) ≡ true
  before-all a b c e f g = rw (e, f, g) refl

  within-is : (at : Option Fraction) → is_last at → MatchOption (option_and_then (if_before s) at) (IsNever s) (IsFirstWithin s)
  within-is None never = never
  within-is (Some r) (p, q, one, two, three) = cases (is_before r s.x && (is_before r s.y && is_before r s.z)) refl
    where
      cases : (t : Bool) → (is_before r s.x && (is_before r s.y && is_before r s.z)) ≡ t → MatchOption (if t then Some r else None) (IsNever s) (IsFirstWithin s)
      cases true e =
          let (x, y, z) = before-cases (is_before r s.x) (is_before r s.y) (is_before r s.z) e in
          pushed_within s p q r one two three (grind arith) (grind arith) (grind arith)
      cases false e = λ n m h w.
          let (x, y, z) = pushed_before s p q r one two three n m h w in
          let a : is_before r s.x ≡ true = grind arith in
          let b : is_before r s.y ≡ true = grind arith in
          let c : is_before r s.z ≡ true = grind arith in
          let all = before-all (is_before r s.x) (is_before r s.y) (is_before r s.z) a b c in
          cc

  pub first-is : MatchOption (first_within s) (IsNever s) (IsFirstWithin s)
  unfolding first_within
  first-is = within-is (last_pushed s) last-is

module _ (b : Bounds) (ray : RayView) where
  joined-is : (x y z : Option Stretch) → IsSpan b.low.x b.high.x ray.origin.x ray.dir.x x → IsSpan b.low.y b.high.y ray.origin.y ray.dir.y y → IsSpan b.low.z b.high.z ray.origin.z ray.dir.z z → MatchOption (joined x y z) (IsMissed b ray) (AreSpans b ray)
  joined-is (Some x) (Some y) (Some z) p q r = record {
    within = λ n m h hit.
        let (px, bx) = (p n m h).0 hit.x in
        let (py, by) = (q n m h).0 hit.y in
        let (pz, bz) = (r n m h).0 hit.z in
        record { x_past = px; x_before = bx; y_past = py; y_before = by; z_past = pz; z_before = bz };
    hit = λ n m h w. record {
      x = (p n m h).1 w.x_past w.x_before;
      y = (q n m h).1 w.y_past w.y_before;
      z = (r n m h).1 w.z_past w.z_before;
    };
  }
  joined-is (Some x) (Some y) None p q r = λ n m h hit. r n m h hit.z
  joined-is (Some x) None z p q r = λ n m h hit. q n m h hit.y
  joined-is None y z p q r = λ n m h hit. p n m h hit.x

  spans-is : MatchOption (spans_of b ray) (IsMissed b ray) (AreSpans b ray)
  unfolding spans_of
  spans-is =
      joined-is (span_of b.low.x b.high.x ray.origin.x ray.dir.x) (span_of b.low.y b.high.y ray.origin.y ray.dir.y) (span_of b.low.z b.high.z ray.origin.z ray.dir.z)
      (span-is b.low.x b.high.x ray.origin.x ray.dir.x) (span-is b.low.y b.high.y ray.origin.y ray.dir.y) (span-is b.low.z b.high.z ray.origin.z ray.dir.z)

  within-spans : (s : Spans) → AreSpans b ray s → (at : Option Fraction) → MatchOption at (IsNever s) (IsFirstWithin s) → MatchOption at (IsMissed b ray) (λ (at : Fraction). IsEntered b ray at.n at.m)
  within-spans s a None never = λ n m h hit. never n m h (a.within n m h hit)
  within-spans s a (Some at) first = record {
    positive = first.positive;
    hit = a.hit at.n at.m first.positive first.within;
    first = λ n m h hit. first.first n m h (a.within n m h hit);
  }

  entry-by : (s : Option Spans) → MatchOption s (IsMissed b ray) (AreSpans b ray) → MatchOption (option_and_then first_within s) (IsMissed b ray) (λ (at : Fraction). IsEntered b ray at.n at.m)
  entry-by None miss = miss
  entry-by (Some s) a = within-spans s a (first_within s) (first-is s)

  pub entry-is : MatchOption (entry_of b ray) (IsMissed b ray) (λ (at : Fraction). IsEntered b ray at.n at.m)
  unfolding entry_of
  entry-is = entry-by (spans_of b ray) spans-is
