-- What a TimeSensor keeps (ISO/IEC 19775-1, time component; the ranges are our choice).
use Rattle.std.specs.Prelude.{ℕ, ◌^◌, ℤ, pos, int_lt, nat_lt, Bool, true, ◌&&◌, Option, Some, None, if◌then◌else◌}
use Rattle.std.specs.Option.{option_and_then}
pub use Rattle.x3d_values.specs.Ranges.{is_time}
use Rattle.x3d_values.specs.declared.fields.Fields.{Fields}
use Rattle.x3d_values.specs.declared.value.Value.TheVariants.{SFBool, SFTime}
use Rattle.x3d_values.specs.Kept.{with_value}
use Rattle.react_core.specs.Reaction.{stored}
use Rattle.react_core.specs.Stored.{time_of, truth_of}
use Rattle.sensor_core.specs.declared.timing.Times.{Times}
use Rattle.sensor_core.specs.declared.numbers.TheConstants.{CYCLE_INTERVAL, ENABLED, LOOP, PAUSE_TIME, RESUME_TIME, START_TIME, STOP_TIME}

-- the values of a TimeSensor's inputOutput fields, times in microseconds
abbrev pub TimeFieldsView : Type 0
TimeFieldsView = Times

-- a cycle is longer than 0
abbrev pub is_interval : ℤ → Bool
is_interval time = int_lt (pos 0) time && is_time time

abbrev pub are_times : ℤ → ℤ → Bool
are_times one other = is_time one && is_time other

abbrev pub is_timing : TimeFieldsView → Bool
is_timing t =
    is_interval t.cycle_interval
    && (are_times t.pause_time t.resume_time && are_times t.start_time t.stop_time)

-- cycle numbers have 63 bits
abbrev pub is_state : Option ℕ → Bool
is_state None = true
is_state (Some cycle) = nat_lt cycle (2 ^ 63)

-- the value of a field that keeps a time, or a truth value
unfoldable pub time_at : Fields → ℕ → Option ℤ
time_at fields field = stored time_of fields field

unfoldable pub truth_at : Fields → ℕ → Option Bool
truth_at fields field = stored truth_of fields field

infixl 10 ◌>>=◌
abbrev pub ◌>>=◌ : {A B : Type 0} → Option A → (A → Option B) → Option B
o >>= f = option_and_then f o

-- the values, if each is in its range
unfoldable pub checked : TimeFieldsView → Option TimeFieldsView
checked t = if is_timing t then Some t else None

-- the values of a TimeSensor's fields, if each field holds a value in its range
unfoldable pub timing_of : Fields → Option TimeFieldsView
timing_of fields = do
  interval ← time_at fields CYCLE_INTERVAL
  enabled ← truth_at fields ENABLED
  looping ← truth_at fields LOOP
  pause ← time_at fields PAUSE_TIME
  resume ← time_at fields RESUME_TIME
  start ← time_at fields START_TIME
  stop ← time_at fields STOP_TIME
  checked (record {
    cycle_interval = interval;
    enabled = enabled;
    looping = looping;
    pause_time = pause;
    resume_time = resume;
    start_time = start;
    stop_time = stop;
  })

-- the fields with these values
unfoldable pub with_timing : Fields → TimeFieldsView → Fields
with_timing fields t =
    let interval = with_value fields CYCLE_INTERVAL (SFTime t.cycle_interval) in
    let enabled = with_value interval ENABLED (SFBool t.enabled) in
    let looping = with_value enabled LOOP (SFBool t.looping) in
    let pause = with_value looping PAUSE_TIME (SFTime t.pause_time) in
    let resume = with_value pause RESUME_TIME (SFTime t.resume_time) in
    let start = with_value resume START_TIME (SFTime t.start_time) in
    with_value start STOP_TIME (SFTime t.stop_time)
