-- What an enabled pointing sensor does with a viewer's pointer (ISO/IEC 19775-1, pointing device
-- sensor component): a TouchSensor by Touches, a PlaneSensor by Planes.
use Rattle.std.specs.Prelude.{ℤ, List, [], Option, Some, None}
use Rattle.x3d_values.specs.declared.fields.Fields.{Fields}
use Rattle.react_core.specs.declared.outbox.SentEvent.{SentEvent}
use Rattle.sensor_core.specs.Touches.{TouchStateView as Touches, point as touch_point, pointer}
use Rattle.sensor_plane.specs.declared.fields.PlaneFields.{PlaneFields}
use Rattle.sensor_plane.specs.declared.meeting.SensorPointer.{SensorPointer}
use Rattle.sensor_plane.specs.declared.pointer.PlanePointer.{PlanePointer}
use Rattle.sensor_plane.specs.declared.pointing.PointingState.{PointingState}
use Rattle.sensor_plane.specs.declared.pointing.PointingState.TheVariants.{NoSensor, Touch, Plane}
use Rattle.sensor_plane.specs.PlaneFields.{plane_fields_of, with_offset}
use Rattle.sensor_plane.specs.Planes.{Plane as Planes, point as plane_point}

-- the sensor's state, its fields, and what it sends, in order
pub record PlaneMet : Type 0 where
  pub state : PointingState
  pub fields : Fields
  pub replies : List SentEvent

-- nothing happens
abbrev pub unmet : PointingState → Fields → PlaneMet
unmet state fields = record { state = state; fields = fields; replies = [] }

-- a TouchSensor uses the pointer's place, and the time
abbrev pub touched : Touches → Fields → SensorPointer → ℤ → PlaneMet
touched touch fields p time =
    let t = touch_point touch (pointer p.who p.before p.down p.place) time in
    record { state = Touch t.touch; fields = fields; replies = t.replies }

-- a PlaneSensor also uses the path to the list that holds it
abbrev pub to_plane : SensorPointer → PlanePointer
to_plane p = record {
  who = p.who;
  before = p.before;
  down = p.down;
  contact = p.contact;
  tracked = p.tracked;
}

-- nothing happens unless each field that determines a drag has a value of its type
abbrev pub dragged_by : Planes → Fields → SensorPointer → Option PlaneFields → PlaneMet
dragged_by plane fields p None = unmet (Plane plane) fields
dragged_by plane fields p (Some values) =
    let d = plane_point plane values (to_plane p) in
    record { state = Plane d.plane; fields = with_offset fields d.fields; replies = d.replies }

unfoldable pub pointed : PointingState → Fields → SensorPointer → ℤ → PlaneMet
pointed NoSensor fields p time = unmet NoSensor fields
pointed (Touch touch) fields p time = touched touch fields p time
pointed (Plane plane) fields p time = dragged_by plane fields p (plane_fields_of fields)
