-- A ray between the sides of one axis, and of all three.
use Rattle.std.proofs.Common.{◌≡◌, ℕ, ◌*◌, ◌<◌, ◌≤◌, ◌⊎◌, inl, inr, ℤ, pos, negsuc, ◌+ℤ◌, ◌*ℤ◌, ◌≤ℤ◌, ◌<ℤ◌, suc, sym, subst, unsigned_abs, Option, Some, None, arith}
use Rattle.std.proofs.lemmas.Int.{ints}
use Rattle.std.proofs.lemmas.Nat.{mul-le}
use Rattle.x3d_values.specs.Pointing.{RayView}
use Rattle.pick_rules.specs.Hits.{IsCrossed, IsHit}
use Rattle.pick_rules.specs.declared.bounds.Bounds.{Bounds}
use Rattle.pick_rules.specs.declared.bounds.Fraction.{Fraction}
use Rattle.pick_rules.specs.declared.crossing.Stretch.{Stretch}
use Rattle.pick_rules.specs.declared.crossing.Spans.{Spans}
use Rattle.pick_rules.proofs.Fractions.{fraction_trans, IsBetween, mul_parts, forward_between, between_forward, backward_between, between_backward}

-- n / m is not before near / slope
abbrev pub IsPast : ℕ → ℕ → ℕ → ℕ → Type 0
IsPast near slope n m = m * near ≤ n * slope

-- n / m is not behind far / slope
abbrev pub IsBefore : ℕ → ℕ → ℕ → ℕ → Type 0
IsBefore far slope n m = n * slope ≤ m * far

-- the sides are passed exactly within the span
abbrev pub IsSpan : ℤ → ℤ → ℤ → ℤ → Option Stretch → Type 0
IsSpan low high origin dir None = (n m : ℕ) → 0 < m → ¬ IsCrossed low high origin dir n m
IsSpan low high origin dir (Some s) = (n m : ℕ) → 0 < m → (IsCrossed low high origin dir n m → IsPast s.near s.slope n m × IsBefore s.far s.slope n m) × (IsPast s.near s.slope n m → IsBefore s.far s.slope n m → IsCrossed low high origin dir n m)

-- a / b is not after n / m
abbrev pub IsUpTo : ℕ → ℕ → ℕ → ℕ → Type 0
IsUpTo a b n m = a * m ≤ n * b

-- the first fraction from one on that is not before near / slope
pub record IsPushed (from : Fraction) (near slope : ℕ) (to : Fraction) : Type 0 where
  pub positive : 0 < to.m
  pub past : IsPast near slope to.n to.m
  pub forward : IsUpTo from.n from.m to.n to.m
  pub first : (n m : ℕ) → 0 < m → IsUpTo from.n from.m n m → IsPast near slope n m → IsUpTo to.n to.m n m

abbrev pub IsPush : Fraction → ℕ → ℕ → Option Fraction → Type 0
IsPush from near slope None = (n m : ℕ) → 0 < m → ¬ IsPast near slope n m
IsPush from near slope (Some to) = IsPushed from near slope to

-- n / m is within the spans of all axes
pub record IsWithin (s : Spans) (n m : ℕ) : Type 0 where
  pub x_past : IsPast s.x.near s.x.slope n m
  pub y_past : IsPast s.y.near s.y.slope n m
  pub z_past : IsPast s.z.near s.z.slope n m
  pub x_before : IsBefore s.x.far s.x.slope n m
  pub y_before : IsBefore s.y.far s.y.slope n m
  pub z_before : IsBefore s.z.far s.z.slope n m

-- the ray is in the box exactly within the spans
pub record AreSpans (b : Bounds) (r : RayView) (s : Spans) : Type 0 where
  pub within : (n m : ℕ) → 0 < m → IsHit b r n m → IsWithin s n m
  pub hit : (n m : ℕ) → 0 < m → IsWithin s n m → IsHit b r n m

abbrev pub IsNever : Spans → Type 0
IsNever s = (n m : ℕ) → 0 < m → ¬ IsWithin s n m

pub record IsFirstWithin (s : Spans) (at : Fraction) : Type 0 where
  pub positive : 0 < at.m
  pub within : IsWithin s at.n at.m
  pub first : (n m : ℕ) → 0 < m → IsWithin s n m → at.n * m ≤ n * at.m

abbrev pub Forward : ℤ → ℤ → ℤ → ℤ → ℤ → ℤ → Type 0
Forward low high origin d near far = pos 0 ≤ℤ d → (low ≡ origin +ℤ near) × (high ≡ origin +ℤ far)

abbrev pub Backward : ℤ → ℤ → ℤ → ℤ → ℤ → ℤ → Type 0
Backward low high origin d near far = d <ℤ pos 0 → (origin ≡ high +ℤ near) × (origin ≡ low +ℤ far)

pub between : (low high origin d near far : ℤ) → Forward low high origin d near far → Backward low high origin d near far → (n m : ℕ) → IsCrossed low high origin d n m → IsBetween near far (unsigned_abs d) n m
between low high origin (pos k) near far f b n m c =
    let h : pos 0 ≤ℤ pos k = omega (arith, ints) in
    forward_between low high origin (pos k) near far n m h (f h).0 (f h).1 c
between low high origin (negsuc k) near far f b n m c =
    let h : negsuc k <ℤ pos 0 = omega (arith, ints) in
    backward_between low high origin (negsuc k) near far n m h (b h).0 (b h).1 c

pub crossed : (low high origin d near far : ℤ) → Forward low high origin d near far → Backward low high origin d near far → (n m : ℕ) → IsBetween near far (unsigned_abs d) n m → IsCrossed low high origin d n m
crossed low high origin (pos k) near far f b n m c =
    let h : pos 0 ≤ℤ pos k = omega (arith, ints) in
    between_forward low high origin (pos k) near far n m h (f h).0 (f h).1 c
crossed low high origin (negsuc k) near far f b n m c =
    let h : negsuc k <ℤ pos 0 = omega (arith, ints) in
    between_backward low high origin (negsuc k) near far n m h (b h).0 (b h).1 c

pub behind_all : (far : ℤ) (s n m : ℕ) → far <ℤ pos 0 → 0 < m → pos (n * s) ≤ℤ (pos m *ℤ far) → ⊥
behind_all (pos k) s n m h p c = omega (arith, ints)
behind_all (negsuc k) s n m h p c =
    let w : 1 * 1 ≤ m * suc k = mul-le 1 1 m (suc k) (omega arith) (omega arith) in
    omega (arith, ints, mul_parts m (negsuc k))

-- a near side behind the origin counts as the origin
abbrev pub IsNear : ℤ → ℕ → Type 0
IsNear near a = (near ≡ pos a) ⊎ ((near <ℤ pos 0) × (a ≡ 0))

past_near : (near : ℤ) (a s n m : ℕ) → IsNear near a → (pos m *ℤ near) ≤ℤ pos (n * s) → IsPast a s n m
past_near near a s n m (inl e) h =
    let k : (pos m *ℤ pos a) ≤ℤ pos (n * s) = subst (λ z. (pos m *ℤ z) ≤ℤ pos (n * s)) e h in omega (arith, ints)
past_near near a s n m (inr e) h = rw e.1 (omega arith)

near_past : (near : ℤ) (a s n m : ℕ) → IsNear near a → IsPast a s n m → (pos m *ℤ near) ≤ℤ pos (n * s)
near_past near a s n m (inl e) h = rw e (omega (arith, ints))
near_past (pos k) a s n m (inr e) h = absurd (omega (arith, ints))
near_past (negsuc k) a s n m (inr e) h = omega (arith, ints, mul_parts m (negsuc k))

module _ (low high origin d near far : ℤ) (f : Forward low high origin d near far) (b : Backward low high origin d near far) (a z : ℕ) (is_near : IsNear near a) (is_far : far ≡ pos z) where
  pub span_in : (n m : ℕ) → IsCrossed low high origin d n m → IsPast a (unsigned_abs d) n m × IsBefore z (unsigned_abs d) n m
  span_in n m c =
      let w = between low high origin d near far f b n m c in
      let k : pos (n * unsigned_abs d) ≤ℤ (pos m *ℤ pos z) = subst (λ x. pos (n * unsigned_abs d) ≤ℤ (pos m *ℤ x)) is_far w.before in
      (past_near near a (unsigned_abs d) n m is_near w.past, omega (arith, ints))

  pub span_out : (n m : ℕ) → IsPast a (unsigned_abs d) n m → IsBefore z (unsigned_abs d) n m → IsCrossed low high origin d n m
  span_out n m p q =
      let k : pos (n * unsigned_abs d) ≤ℤ (pos m *ℤ pos z) = omega (arith, ints) in
      crossed low high origin d near far f b n m (record {
        past = near_past near a (unsigned_abs d) n m is_near p;
        before = subst (λ x. pos (n * unsigned_abs d) ≤ℤ (pos m *ℤ x)) (sym is_far) k;
      })

-- what a later fraction keeps
pub past_later : (a s n m n' m' : ℕ) → 0 < m → IsPast a s n m → IsUpTo n m n' m' → IsPast a s n' m'
past_later a s n m n' m' p h k =
    let x : a * m ≤ n * s = omega arith in
    let y = fraction_trans a s n m n' m' p x k in omega arith

-- what an earlier fraction keeps
pub before_earlier : (z s n m n' m' : ℕ) → 0 < m' → IsBefore z s n' m' → IsUpTo n m n' m' → IsBefore z s n m
before_earlier z s n m n' m' p h k =
    let x : n' * s ≤ z * m' = omega arith in
    let y = fraction_trans n m n' m' z s p k x in omega arith

module _ (s : Spans) (p q r : Fraction)
    (one : IsPushed (record { n = 0; m = 1 }) s.x.near s.x.slope p)
    (two : IsPushed p s.y.near s.y.slope q)
    (three : IsPushed q s.z.near s.z.slope r) where
  pub pushed_first : (n m : ℕ) → 0 < m → IsWithin s n m → IsUpTo r.n r.m n m
  pushed_first n m h w =
      let start : 0 * m ≤ n * 1 = omega arith in
      three.first n m h (two.first n m h (one.first n m h start w.x_past) w.y_past) w.z_past

  pub pushed_within : IsBefore s.x.far s.x.slope r.n r.m → IsBefore s.y.far s.y.slope r.n r.m → IsBefore s.z.far s.z.slope r.n r.m → IsFirstWithin s r
  pushed_within x y z = record {
    positive = three.positive;
    within = record {
      x_past = past_later s.x.near s.x.slope q.n q.m r.n r.m two.positive (past_later s.x.near s.x.slope p.n p.m q.n q.m one.positive one.past two.forward) three.forward;
      y_past = past_later s.y.near s.y.slope q.n q.m r.n r.m two.positive two.past three.forward;
      z_past = three.past;
      x_before = x;
      y_before = y;
      z_before = z;
    };
    first = pushed_first;
  }

  -- what is within anywhere is not behind there
  pub pushed_before : (n m : ℕ) → 0 < m → IsWithin s n m → IsBefore s.x.far s.x.slope r.n r.m × IsBefore s.y.far s.y.slope r.n r.m × IsBefore s.z.far s.z.slope r.n r.m
  pushed_before n m h w =
      let k = pushed_first n m h w in (
        before_earlier s.x.far s.x.slope r.n r.m n m h w.x_before k,
        before_earlier s.y.far s.y.slope r.n r.m n m h w.y_before k,
        before_earlier s.z.far s.z.slope r.n r.m n m h w.z_before k,
      )
