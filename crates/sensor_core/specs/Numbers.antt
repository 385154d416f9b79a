-- The numbers of the sensors' fields belong to the fields' names.
use Rattle.std.specs.Prelude.{ℕ, List, codes}
use Rattle.x3d_values.specs.declared.node_type.NodeType.TheVariants.{TimeSensor, TouchSensor}
use Rattle.react_core.specs.Numbers.{IsNumbered}
use Rattle.sensor_core.specs.declared.numbers.TheConstants.{CYCLE_INTERVAL, ENABLED, LOOP, PAUSE_TIME, RESUME_TIME, START_TIME, STOP_TIME, IS_ACTIVE, CYCLE_TIME, FRACTION_CHANGED, ELAPSED_TIME, TIME}
use Rattle.sensor_core.specs.declared.touch_numbers.TheConstants.{TOUCH_ENABLED, IS_OVER, HIT_POINT_CHANGED, IS_PRESSED, TOUCH_TIME}

abbrev pub IsField : List ℕ → ℕ → Type 0
IsField name number = IsNumbered TimeSensor name number

pub record Numbers : Type 0 where
  pub cycle_interval : IsField (codes "cycleInterval") CYCLE_INTERVAL
  pub enabled : IsField (codes "enabled") ENABLED
  pub looping : IsField (codes "loop") LOOP
  pub pause_time : IsField (codes "pauseTime") PAUSE_TIME
  pub resume_time : IsField (codes "resumeTime") RESUME_TIME
  pub start_time : IsField (codes "startTime") START_TIME
  pub stop_time : IsField (codes "stopTime") STOP_TIME
  pub is_active : IsField (codes "isActive") IS_ACTIVE
  pub cycle_time : IsField (codes "cycleTime") CYCLE_TIME
  pub fraction_changed : IsField (codes "fraction_changed") FRACTION_CHANGED
  pub elapsed_time : IsField (codes "elapsedTime") ELAPSED_TIME
  pub time : IsField (codes "time") TIME

abbrev pub IsTouchField : List ℕ → ℕ → Type 0
IsTouchField name number = IsNumbered TouchSensor name number

pub record TouchNumbers : Type 0 where
  pub enabled : IsTouchField (codes "enabled") TOUCH_ENABLED
  pub is_over : IsTouchField (codes "isOver") IS_OVER
  pub hit_point : IsTouchField (codes "hitPoint_changed") HIT_POINT_CHANGED
  pub is_active : IsTouchField (codes "isActive") IS_PRESSED
  pub touch_time : IsTouchField (codes "touchTime") TOUCH_TIME
