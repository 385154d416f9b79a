-- What nodes do keeps the ranges of their fields.
use Rattle.std.specs.Prelude.{◌≡◌, ℕ, ℤ, Bool, true, List, length, Option, Some}
use Rattle.std.specs.Option.{option_map_or}
use Rattle.x3d_values.specs.declared.fields.Fields.{Fields}
use Rattle.x3d_values.specs.declared.node_type.NodeType.{NodeType}
use Rattle.x3d_values.specs.declared.node_type.NodeType.TheVariants.{PlaneSensor, TimeSensor, TouchSensor}
use Rattle.x3d_values.specs.declared.ranges.TheConstants.{MAX_VIEWERS}
use Rattle.x3d_values.specs.declared.value.Value.{Value}
use Rattle.x3d_values.specs.declared.vector.Vec3.{Vec3}
use Rattle.x3d_values.specs.Ranges.{coordinates_fit, is_viewer}
use Rattle.x3d_values.specs.Tables.{FieldRowView}
use Rattle.react_core.specs.Reaction.{Reaction, reaction}
use Rattle.sensor_core.specs.Events.{TimeAnswer, set}
use Rattle.sensor_core.specs.Ticks.{Tick, tick}
use Rattle.sensor_core.specs.Timing.{TimeFieldsView, timing_of, with_timing, is_timing}
use Rattle.sensor_core.specs.Touches.{TouchStateView, Touched, pointer, point, disable}
use Rattle.sensor_plane.specs.declared.meeting.SensorPointer.{SensorPointer}
use Rattle.sensor_plane.specs.declared.pointing.PointingState.TheVariants as state
use Rattle.sensor_plane.specs.Meeting.{PlaneMet, pointed}
use Rattle.sensor_plane.specs.PlaneParts.{contact_fits}
use Rattle.sensor_plane.specs.Planes.{Plane}
use Rattle.sensor_plane.specs.Pointing.{Forgotten, forgotten, plane_fits}
use Rattle.snapshot_codec.specs.Parts.{cycle_fits}
use Rattle.snapshot_codec.specs.Trace.{is_moment}
use Rattle.snapshot_codec.specs.Values.{vector3}
use Rattle.laws_worlds.specs.Ranges.{event_fits, fields_fit, replies_fit}

-- -- any node, with these fields after those of its type

-- the node keeps fields that fit, and sends events that fit
pub record Fit (node_type : NodeType) (declared : List FieldRowView) (r : Reaction) : Type 0 where
  pub in_fields : fields_fit node_type declared r.fields ≡ true
  pub in_replies : replies_fit node_type declared r.replies ≡ true

-- if its fields fit, and so does the event that it receives, then Fit holds
abbrev pub ReactionsFit : Type 0
ReactionsFit =
    (node_type : NodeType) (declared : List FieldRowView) (fields : Fields) (input : ℕ)
    (value : Value)
    (time : ℤ)
    → fields_fit node_type declared fields ≡ true
    → event_fits node_type declared input value ≡ true → is_moment time ≡ true
    → Fit node_type declared (reaction node_type fields input value time)

-- ---- a TimeSensor

-- it keeps fields that fit, the number of a running cycle fits in 63 bits, and it sends events that
-- fit
pub record Set (declared : List FieldRowView) (fields : Fields) (a : TimeAnswer) : Type 0 where
  pub in_fields : fields_fit TimeSensor declared (with_timing fields a.timing) ≡ true
  pub in_cycle : cycle_fits a.cycle ≡ true
  pub in_replies : replies_fit TimeSensor declared a.replies ≡ true

pub record Ticked (declared : List FieldRowView) (t : Tick) : Type 0 where
  pub in_cycle : cycle_fits t.cycle ≡ true
  pub in_replies : replies_fit TimeSensor declared t.replies ≡ true

-- it receives an event
abbrev pub SetsFit : Type 0
SetsFit =
    (declared : List FieldRowView) (fields : Fields) (timing : TimeFieldsView) (cycle : Option ℕ)
    (input : ℕ)
    (value : Value)
    → fields_fit TimeSensor declared fields ≡ true → timing_of fields ≡ Some timing
    → cycle_fits cycle ≡ true → Set declared fields (set cycle timing input value)

-- the clock ticks
abbrev pub TicksFit : Type 0
TicksFit =
    (declared : List FieldRowView) (timing : TimeFieldsView) (cycle : Option ℕ) (now : ℤ)
    → is_timing timing ≡ true → cycle_fits cycle ≡ true → is_moment now ≡ true
    → Ticked declared (tick cycle timing now)

-- ---- a TouchSensor

-- it keeps for each viewer whether the pointer is over it; the presser, if any, is a viewer; it
-- sends events that fit
pub record TouchFit (declared : List FieldRowView) (t : Touched) : Type 0 where
  pub in_over : length t.touch.over ≡ MAX_VIEWERS
  pub in_presser : option_map_or is_viewer t.touch.presser true ≡ true
  pub in_replies : replies_fit TouchSensor declared t.replies ≡ true

-- a viewer points, inside at a place in its range, or outside
abbrev pub PointsFit : Type 0
PointsFit =
    (declared : List FieldRowView) (touch : TouchStateView) (who : ℕ) (before down : Bool)
    (inside : Option Vec3)
    (now : ℤ)
    → length touch.over ≡ MAX_VIEWERS → option_map_or is_viewer touch.presser true ≡ true
    → is_viewer who ≡ true
    → option_map_or vector3.fits inside true ≡ true → is_moment now ≡ true
    → TouchFit declared (point touch (pointer who before down inside) now)

-- it is disabled
abbrev pub DisablesFit : Type 0
DisablesFit =
    (declared : List FieldRowView) (touch : TouchStateView) → TouchFit declared (disable touch)

-- ---- a PlaneSensor

-- its kept state is in range, its fields fit, and it sends events that fit
pub record PlaneFit (declared : List FieldRowView) (m : PlaneMet) : Type 0 where
  pub in_state : plane_fits m.state ≡ true
  pub in_fields : fields_fit PlaneSensor declared m.fields ≡ true
  pub in_replies : replies_fit PlaneSensor declared m.replies ≡ true

-- a viewer points over the sensor, at a place in its range and by a path that may be kept, or not
-- over it; while it drags, its ray meets the plane at a place in its range, or not at all
abbrev pub PlanePointsFit : Type 0
PlanePointsFit =
    (declared : List FieldRowView) (plane : Plane) (fields : Fields) (at : SensorPointer) (now : ℤ)
    → plane_fits (state.Plane plane) ≡ true → fields_fit PlaneSensor declared fields ≡ true
    → is_viewer at.who ≡ true → contact_fits at.contact ≡ true
    → option_map_or coordinates_fit at.tracked true ≡ true
    → PlaneFit declared (pointed (state.Plane plane) fields at now)

pub record PlaneForgets (declared : List FieldRowView) (f : Forgotten) : Type 0 where
  pub in_state : plane_fits f.state ≡ true
  pub in_replies : replies_fit PlaneSensor declared f.replies ≡ true

-- it is disabled
abbrev pub PlaneDisablesFit : Type 0
PlaneDisablesFit =
    (declared : List FieldRowView) (plane : Plane)
    → PlaneForgets declared (forgotten (state.Plane plane))
