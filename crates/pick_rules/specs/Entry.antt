-- Where a ray enters a box, by the sides that the ray passes on each axis.
use Rattle.std.specs.Prelude.{ℕ, ◌*◌, ◌==◌, nat_le, nat_lt, ℤ, pos, negsuc, ◌-ℤ◌, int_lt, unsigned_abs, Bool, ◌&&◌, Option, Some, None, MatchOption, if◌then◌else◌}
use Rattle.std.specs.Option.{option_and_then}
use Rattle.x3d_values.specs.Pointing.{RayView}
use Rattle.pick_rules.specs.declared.bounds.Bounds.{Bounds}
use Rattle.pick_rules.specs.declared.bounds.Fraction.{Fraction}
use Rattle.pick_rules.specs.declared.crossing.Stretch.{Stretch}
use Rattle.pick_rules.specs.declared.crossing.Spans.{Spans}
use Rattle.pick_rules.specs.Hits.{IsMissed, IsEntered}

abbrev pub from_0 : ℤ → ℕ
from_0 (pos n) = n
from_0 (negsuc n) = 0

-- the span between two sides at distances near and far ahead; None if both are behind the ray's
-- origin
unfoldable pub span_at : ℤ → ℤ → ℕ → Option Stretch
span_at near far slope =
    if int_lt far (pos 0) then None
    else Some (record { near = from_0 near; far = from_0 far; slope = slope })

-- the ray is between the sides of an axis from near / slope to far / slope of its way
unfoldable pub span_of : ℤ → ℤ → ℤ → ℤ → Option Stretch
span_of low high origin dir =
    if int_lt dir (pos 0)
    then span_at (origin -ℤ high) (origin -ℤ low) (unsigned_abs dir)
    else span_at (low -ℤ origin) (high -ℤ origin) (unsigned_abs dir)

-- the first fraction, from `from` on, that is not before near / slope
unfoldable pub push_of : Fraction → ℕ → ℕ → Option Fraction
push_of from near slope =
    if nat_le (from.m * near) (from.n * slope)
    then Some from
    else (if slope == 0 then None else Some (record { n = near; m = slope }))

-- a fraction is not past far / slope
abbrev pub is_before : Fraction → Stretch → Bool
is_before at s = nat_le (at.n * s.slope) (at.m * s.far)

unfoldable pub last_pushed : Spans → Option Fraction
last_pushed s =
    option_and_then (λ (x : Fraction).
    option_and_then (λ (y : Fraction). push_of y s.z.near s.z.slope)
    (push_of x s.y.near s.y.slope)) (push_of (record { n = 0; m = 1 }) s.x.near s.x.slope)

abbrev pub if_before : Spans → Fraction → Option Fraction
if_before s at = if is_before at s.x && (is_before at s.y && is_before at s.z) then Some at
    else None

-- the first fraction that is not before any near side, if it is not past a far side
unfoldable pub first_within : Spans → Option Fraction
first_within s = option_and_then (if_before s) (last_pushed s)

abbrev pub joined : Option Stretch → Option Stretch → Option Stretch → Option Spans
joined (Some x) (Some y) (Some z) = Some (record { x = x; y = y; z = z })
joined (Some x) (Some y) None = None
joined (Some x) None z = None
joined None y z = None

unfoldable pub spans_of : Bounds → RayView → Option Spans
spans_of b ray =
    joined
    (span_of b.low.x b.high.x ray.origin.x ray.dir.x)
    (span_of b.low.y b.high.y ray.origin.y ray.dir.y)
    (span_of b.low.z b.high.z ray.origin.z ray.dir.z)

-- the first fraction at which the ray hits the box
unfoldable pub entry_of : Bounds → RayView → Option Fraction
entry_of b ray = option_and_then first_within (spans_of b ray)

-- `entry_of` is the fraction at which the box is hit first; None if the box is missed
abbrev pub Entries : Type 0
Entries = (b : Bounds) (ray : RayView)
    → MatchOption (entry_of b ray) (IsMissed b ray) (λ (at : Fraction). IsEntered b ray at.n at.m)

-- ---- the order of fractions

abbrev pub is_less : Fraction → Fraction → Bool
is_less at other = nat_lt (at.n * other.m) (other.n * at.m)
