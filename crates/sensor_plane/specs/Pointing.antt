-- The pointing state of a node: what it keeps, in addition to its fields, of viewers' pointers. A
-- TouchSensor and a PlaneSensor keep their states, other nodes nothing (our choice).
use Rattle.std.specs.Prelude.{ℕ, ◌==◌, Bool, true, false, not, is_none, ◌&&◌, List, [], length, Option, None, if◌then◌else◌}
use Rattle.std.specs.Option.{option_map_or}
use Rattle.x3d_values.specs.declared.node_type.NodeType.{NodeType}
use Rattle.x3d_values.specs.declared.node_type.NodeType.TheVariants.{PlaneSensor, TouchSensor}
use Rattle.x3d_values.specs.declared.ranges.TheConstants.{MAX_VIEWERS}
use Rattle.x3d_values.specs.Ranges.{is_viewer}
use Rattle.react_core.specs.declared.outbox.SentEvent.{SentEvent}
use Rattle.sensor_core.specs.Touches as touches
use Rattle.sensor_plane.specs.declared.drag.Drag.{Drag}
use Rattle.sensor_plane.specs.declared.pointing.PointingState.{PointingState}
use Rattle.sensor_plane.specs.declared.pointing.PointingState.TheVariants.{NoSensor, Touch, Plane}
use Rattle.sensor_plane.specs.PlaneParts.{drag_fits}
use Rattle.sensor_plane.specs.Planes as planes

-- the state of a node of that type when a world begins
abbrev pub start_of : NodeType → PointingState
start_of TouchSensor = Touch touches.untouched
start_of PlaneSensor = Plane planes.untouched
start_of _ = NoSensor

abbrev pub is_touch : PointingState → Bool
is_touch (Touch touch) = true
is_touch _ = false

abbrev pub is_plane : PointingState → Bool
is_plane (Plane plane) = true
is_plane _ = false

abbrev pub is_no_sensor : PointingState → Bool
is_no_sensor NoSensor = true
is_no_sensor _ = false

-- the state is one of a node of that type
abbrev pub is_state_of : NodeType → PointingState → Bool
is_state_of TouchSensor state = is_touch state
is_state_of PlaneSensor state = is_plane state
is_state_of _ state = is_no_sensor state

-- no pointer is over the sensor, and no viewer presses it
abbrev pub is_resting : PointingState → Bool
is_resting NoSensor = true
is_resting (Touch touch) = not (touches.is_over touch) && is_none touch.presser
is_resting (Plane plane) = not (planes.is_over plane) && is_none plane.drag

-- a viewer presses the sensor
abbrev pub is_pressed_by : PointingState → ℕ → Bool
is_pressed_by NoSensor who = false
is_pressed_by (Touch touch) who = touches.is_pressed_by touch who
is_pressed_by (Plane plane) who = planes.is_pressed_by plane who

-- ---- `enabled` FALSE

-- the state, and what is sent, in order
pub record Forgotten : Type 0 where
  pub state : PointingState
  pub replies : List SentEvent

-- a sensor forgets its pointers
abbrev pub forgotten : PointingState → Forgotten
forgotten NoSensor = record { state = NoSensor; replies = [] }
forgotten (Touch touch) = record {
  state = Touch (touches.disable touch).touch;
  replies = (touches.disable touch).replies;
}
forgotten (Plane plane) = record {
  state = Plane (planes.disable plane).plane;
  replies = (planes.disable plane).replies;
}

-- ---- drags

-- the drag of a PlaneSensor, if viewer `who` presses it
abbrev pub drag_by : PointingState → ℕ → Option Drag
drag_by (Plane plane) who = if planes.is_pressed_by plane who then plane.drag else None
drag_by _ who = None

-- ---- ranges

-- the state has a place for each viewer, and the presser, if there is one, is a viewer
abbrev pub touch_fits : PointingState → Bool
touch_fits (Touch touch) =
    (length touch.over == MAX_VIEWERS) && option_map_or is_viewer touch.presser true
touch_fits _ = false

-- like `touch_fits`, for a PlaneSensor; the drag is in its ranges
abbrev pub plane_fits : PointingState → Bool
plane_fits (Plane plane) = (length plane.over == MAX_VIEWERS) && drag_fits plane.drag
plane_fits _ = false

-- a state of a node of that type, in its ranges
abbrev pub pointing_fits : NodeType → PointingState → Bool
pointing_fits TouchSensor state = touch_fits state
pointing_fits PlaneSensor state = plane_fits state
pointing_fits _ state = is_no_sensor state
