-- What an event does at a TimeSensor (ISO/IEC 19775-1, time component; what `enabled` FALSE ends is
-- our choice).
use Rattle.std.specs.Prelude.{ℕ, ◌==◌, ℤ, pos, int_le, Bool, false, not, is_some, ◌&&◌, ◌||◌, List, [], ◌∷◌, Option, Some, None, if◌then◌else◌}
use Rattle.x3d_values.specs.declared.value.Value.{Value}
use Rattle.x3d_values.specs.declared.value.Value.TheVariants.{SFBool, SFTime}
use Rattle.react_core.specs.declared.outbox.SentEvent.{SentEvent}
use Rattle.react_core.specs.Reaction.{reply}
use Rattle.sensor_core.specs.declared.numbers.TheConstants.{CYCLE_INTERVAL, ENABLED, LOOP, PAUSE_TIME, RESUME_TIME, START_TIME, STOP_TIME, IS_ACTIVE}
use Rattle.sensor_core.specs.Timing.{TimeFieldsView, is_time}

-- the cycle that runs after an event, if any; what the sensor keeps; and what it sends, in order
pub record TimeAnswer : Type 0 where
  pub cycle : Option ℕ
  pub timing : TimeFieldsView
  pub replies : List SentEvent

-- refused: `startTime` while active; `stopTime` at or below `startTime` while active;
-- `cycleInterval` while active or not above 0
abbrev pub is_refused : Bool → TimeFieldsView → ℕ → ℤ → Bool
is_refused active timing input time =
    if input == START_TIME then active
    else (if input == STOP_TIME then active && int_le time timing.start_time
    else (if input == CYCLE_INTERVAL then active || int_le time (pos 0)
    else false))

-- sets a field that keeps a time
abbrev pub with_time : TimeFieldsView → ℕ → ℤ → Option TimeFieldsView
with_time timing input time =
    if input == CYCLE_INTERVAL then Some (record timing { cycle_interval = time })
    else (if input == PAUSE_TIME then Some (record timing { pause_time = time })
    else (if input == RESUME_TIME then Some (record timing { resume_time = time })
    else (if input == START_TIME then Some (record timing { start_time = time })
    else (if input == STOP_TIME then Some (record timing { stop_time = time })
    else None))))

-- sets a field that keeps a truth value
abbrev pub with_truth : TimeFieldsView → ℕ → Bool → Option TimeFieldsView
with_truth timing input truth =
    if input == ENABLED then Some (record timing { enabled = truth })
    else (if input == LOOP then Some (record timing { looping = truth })
    else None)

-- what the sensor keeps after an event that sets a field; none if the event does nothing
unfoldable pub changed : Bool → TimeFieldsView → ℕ → Value → Option TimeFieldsView
changed active timing input (SFBool truth) = with_truth timing input truth
changed active timing input (SFTime time) =
    if is_refused active timing input time || not (is_time time)
    then None else with_time timing input time
changed active timing input _ = None

-- the event disabled the sensor, which stops it
abbrev pub is_disabled : TimeFieldsView → ℕ → Bool
is_disabled timing input = (input == ENABLED) && not timing.enabled

-- the field is sent; an active sensor that is disabled also sends `isActive` FALSE, and nothing
-- else
abbrev pub keeps : Option ℕ → ℕ → Value → TimeFieldsView → TimeAnswer
keeps cycle input value timing =
    if is_disabled timing input
    then record {
      cycle = None;
      timing = timing;
      replies =
          reply input value
          ∷ (if is_some cycle then reply IS_ACTIVE (SFBool false) ∷ [] else []);
    }
    else record { cycle = cycle; timing = timing; replies = reply input value ∷ [] }

abbrev pub answer : Option ℕ → TimeFieldsView → ℕ → Value → Option TimeFieldsView → TimeAnswer
answer cycle timing input value None = record { cycle = cycle; timing = timing; replies = [] }
answer cycle timing input value (Some new) = keeps cycle input value new

unfoldable pub set : Option ℕ → TimeFieldsView → ℕ → Value → TimeAnswer
set cycle timing input value =
    answer cycle timing input value (changed (is_some cycle) timing input value)
