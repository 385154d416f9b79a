-- Which steps the job of a command may have (our choice).
use Rattle.std.specs.Prelude.{ℕ, ◌==◌, nat_lt, not, Bool, true, false, List}
use Rattle.std.specs.Prelude.{Option, Some, None, Result, Ok, Err}
use Rattle.std.specs.List.{find}
use Rattle.x3d_values.specs.Stamp.{StampedView}
use Rattle.x3d_values.specs.declared.stamped.Cause.{Cause}
use Rattle.x3d_values.specs.declared.stamped.Cause.TheVariants.{Clock, Pointer}
use Rattle.app_jobs.specs.declared.fault.JobFault.{JobFault}
use Rattle.app_jobs.specs.declared.fault.JobFault.TheVariants.{BadJob}
use Rattle.app_words.specs.declared.order.Order.{Order}
use Rattle.app_words.specs.declared.order.Order.TheVariants.{Agree, Host, View}

abbrev pub is_point : Cause → Bool
is_point Clock = false
is_point (Pointer p) = true

-- a clock, or a point of another viewer
abbrev pub is_foreign : (who : ℕ) → Cause → Bool
is_foreign who Clock = true
is_foreign who (Pointer p) = not (p.who == who)

-- a point of a viewer that isn't below this number
abbrev pub is_beyond : (viewers : ℕ) → Cause → Bool
is_beyond viewers Clock = false
is_beyond viewers (Pointer p) = not (nat_lt p.who viewers)

-- a command refuses an input. `agree` takes clocks and points of its viewers, `host` clocks only,
-- `view` points of its viewer only, and another command every step
abbrev pub refuses : Order → StampedView → Bool
refuses (Agree viewers turns) input = is_beyond viewers input.cause
refuses (Host asked) input = is_point input.cause
refuses (View asked) input = is_foreign asked.who input.cause
refuses _ input = false

abbrev pub first_refused : Order → List StampedView → Option StampedView
first_refused order inputs = find (refuses order) inputs

-- the line of a refused input, which is the number of the input
abbrev pub answer : Option StampedView → Result (Unit {0}) JobFault
answer None = Ok tt
answer (Some input) = Err (BadJob input.number)

-- all steps are taken, or the line of the first that is refused
abbrev pub fits : Order → List StampedView → Result (Unit {0}) JobFault
fits order inputs = answer (first_refused order inputs)
