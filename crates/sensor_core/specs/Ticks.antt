-- What a TimeSensor does when the clock ticks (ISO/IEC 19775-1, time component; the last fraction
-- and the clamped elapsed time are our choice).
use Rattle.std.specs.Prelude.{◌≡◌, IsTrue, ℕ, ℤ, pos, ◌+ℤ◌, int_lt, int_le, unsigned_abs, Bool, true, false, not, ◌&&◌, ◌||◌, List, [], ◌∷◌, ◌++◌, Option, Some, None, if◌then◌else◌}
use Rattle.x3d_values.specs.declared.value.Value.TheVariants.{SFBool, SFFloat, SFTime}
use Rattle.react_core.specs.declared.outbox.SentEvent.{SentEvent}
use Rattle.react_core.specs.Reaction.{reply}
use Rattle.sensor_core.specs.declared.numbers.TheConstants.{IS_ACTIVE, CYCLE_TIME, FRACTION_CHANGED, ELAPSED_TIME, TIME}
use Rattle.sensor_core.specs.Cycles.{cycle_at, cycle_time, cycle_end, fraction_at, elapsed_at}
use Rattle.sensor_core.specs.Timing.{TimeFieldsView}

-- the cycle that runs after a tick, if any, and what is sent, in order
pub record Tick : Type 0 where
  pub cycle : Option ℕ
  pub replies : List SentEvent

-- a stop counts only if it is above the start
abbrev pub is_stopped : TimeFieldsView → ℤ → Bool
is_stopped timing t = int_lt timing.start_time timing.stop_time && int_le timing.stop_time t

-- an enabled sensor starts from the start time on, if it loops or its one cycle isn't over
abbrev pub is_started : TimeFieldsView → ℤ → Bool
is_started timing t =
    timing.enabled && (int_le timing.start_time t
    && (not (is_stopped timing t)
    && (timing.looping || int_lt t (timing.start_time +ℤ timing.cycle_interval))))

-- the cycle at a time, and when that cycle began
abbrev pub cycle_of : TimeFieldsView → ℤ → ℤ
cycle_of timing t = cycle_at timing.start_time timing.cycle_interval t

abbrev pub begin_of : TimeFieldsView → ℤ → ℤ
begin_of timing t = cycle_time timing.start_time timing.cycle_interval t

-- when a cycle ends
abbrev pub end_of : TimeFieldsView → ℕ → ℤ
end_of timing cycle = cycle_end timing.start_time timing.cycle_interval cycle

-- the fraction and the elapsed time at time x
abbrev pub fraction_of : TimeFieldsView → ℤ → ℤ
fraction_of timing x = fraction_at timing.start_time timing.cycle_interval x

abbrev pub elapsed_of : TimeFieldsView → ℤ → ℤ
elapsed_of timing x = elapsed_at timing.start_time x

-- what each tick of an active sensor sends at t, with the fraction and elapsed time of x
abbrev pub progress : TimeFieldsView → ℤ → ℤ → List SentEvent
progress timing x t =
    reply FRACTION_CHANGED (SFFloat (fraction_of timing x))
    ∷ reply ELAPSED_TIME (SFTime (elapsed_of timing x))
    ∷ reply TIME (SFTime t)
    ∷ []

-- a tick of an inactive sensor
abbrev pub tick_inactive : TimeFieldsView → ℤ → Tick
tick_inactive timing t =
    if is_started timing t
    then record {
      cycle = Some (unsigned_abs (cycle_of timing t));
      replies =
          reply IS_ACTIVE (SFBool true)
          ∷ reply CYCLE_TIME (SFTime (begin_of timing t))
          ∷ progress timing t t;
    }
    else record { cycle = None; replies = [] }

-- the sensor's one cycle is over
abbrev pub is_over : TimeFieldsView → ℕ → ℤ → Bool
is_over timing cycle t = not timing.looping && int_le (end_of timing cycle) t

-- the time at which a sensor ends: the end of its cycle, or else t if it is stopped; none if it
-- goes on
unfoldable pub last_place : TimeFieldsView → ℕ → ℤ → Option ℤ
last_place timing cycle t =
    if is_over timing cycle t then Some (end_of timing cycle)
    else (if is_stopped timing t then Some t else None)

-- the sensor ends
abbrev pub ends : TimeFieldsView → ℤ → ℤ → Tick
ends timing x t = record {
  cycle = None;
  replies = progress timing x t ++ reply IS_ACTIVE (SFBool false) ∷ [];
}

-- the sensor goes on, in the same cycle or in a later one
abbrev pub goes_on : TimeFieldsView → ℕ → ℤ → Tick
goes_on timing cycle t =
    if int_lt (pos cycle) (cycle_of timing t)
    then record {
      cycle = Some (unsigned_abs (cycle_of timing t));
      replies = reply CYCLE_TIME (SFTime (begin_of timing t)) ∷ progress timing t t;
    }
    else record { cycle = Some cycle; replies = progress timing t t }

-- a tick of an active sensor
abbrev pub tick_active : TimeFieldsView → ℕ → ℤ → Option ℤ → Tick
tick_active timing cycle t None = goes_on timing cycle t
tick_active timing cycle t (Some x) = ends timing x t

unfoldable pub tick : Option ℕ → TimeFieldsView → ℤ → Tick
tick None timing t = tick_inactive timing t
tick (Some cycle) timing t = tick_active timing cycle t (last_place timing cycle t)

-- if a stop and the end of the only cycle fall into one tick, the sensor ends at the end of the
-- cycle
abbrev pub EndWinsOverStop : Type 0
EndWinsOverStop = (timing : TimeFieldsView) (cycle : ℕ) (t : ℤ) → IsTrue (is_over timing cycle t)
    → last_place timing cycle t ≡ Some (end_of timing cycle)
