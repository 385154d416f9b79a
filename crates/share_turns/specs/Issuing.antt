-- Who issues a step: the host issues a clock, and its viewer a point.
use Rattle.std.specs.Prelude.{ℕ, ◌==◌, ◌||◌, Bool, if◌then◌else◌, is_some, ℤ, Option, Some, None}
use Rattle.x3d_values.specs.declared.pointing.Point.{Point}
use Rattle.x3d_values.specs.declared.stamped.Cause.{Cause}
use Rattle.x3d_values.specs.declared.stamped.Cause.TheVariants.{Clock, Pointer}
use Rattle.x3d_values.specs.Stamp.{StampedView}
use Rattle.share_law.specs.Viewer.{point_of}

abbrev pub clock_at : (time : ℤ) → Cause → Option ℤ
clock_at time Clock = Some time
clock_at time (Pointer p) = None

-- the time of a clock, which the host numbers itself
abbrev pub clock_of : Option StampedView → Option ℤ
clock_of None = None
clock_of (Some step) = clock_at step.time step.cause

abbrev pub pointed_by : (who : ℕ) → Cause → Option Point
pointed_by who Clock = None
pointed_by who (Pointer p) = if p.who == who then Some (point_of p) else None

-- the point of a step, if this viewer offers it
abbrev pub offer_of : Option StampedView → (who : ℕ) → Option Point
offer_of None who = None
offer_of (Some step) who = pointed_by who step.cause

-- a clock is issued in the host's turn, and a point if it was offered
abbrev pub is_issued : Option StampedView → (offered : Bool) → Bool
is_issued step offered = offered || is_some (clock_of step)
