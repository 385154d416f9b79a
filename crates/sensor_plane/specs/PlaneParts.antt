-- What a PlaneSensor keeps in addition to its fields, in plain numbers (our choice).
use Rattle.std.specs.Prelude.{◌≡◌, ◌^◌, ◌<◌, IsTrue, Bool, true, false, ◌&&◌, length, Option, Some, None, if◌then◌else◌}
use Rattle.std.specs.List.{list_all}
use Rattle.std.specs.Option.{option_map_or}
use Rattle.x3d_values.specs.declared.node_type.NodeType.TheVariants.{PlaneSensor}
use Rattle.x3d_values.specs.declared.ranges.TheConstants.{MAX_VIEWERS}
use Rattle.x3d_values.specs.declared.table.FieldRow.{FieldRow}
use Rattle.x3d_values.specs.declared.vector.Vec2.{Vec2}
use Rattle.x3d_values.specs.Ranges.{coordinate_fits, coordinates_fit, is_viewer}
use Rattle.x3d_values.specs.Values.{type_of}
use Rattle.react_core.specs.declared.outbox.SentEvent.{SentEvent}
use Rattle.react_core.specs.Access.{are_same, row_at}
use Rattle.sensor_core.specs.Parts.{number_of, over_of}
use Rattle.sensor_plane.specs.declared.drag.Drag.{Drag}
use Rattle.sensor_plane.specs.declared.fields.PlaneFields.{PlaneFields}
use Rattle.sensor_plane.specs.declared.parts.PlaneParts.{PlaneParts}
use Rattle.sensor_plane.specs.declared.pointer.Contact.{Contact}
use Rattle.sensor_plane.specs.declared.pointer.PlanePointer.{PlanePointer}
use Rattle.sensor_plane.specs.Paths.{path_fits}
use Rattle.sensor_plane.specs.PlaneFields.{triple_of}
use Rattle.sensor_plane.specs.Planes.{Plane, PlanePointed, point}

-- bit v of the number is 1 if viewer v's pointer is over the sensor
unfoldable pub parts_of_plane : Plane → PlaneParts
parts_of_plane plane = record { over = number_of plane.over; drag = plane.drag }

-- the presser is a viewer, both points are in their range, and the path fits
abbrev pub drag_fits : Option Drag → Bool
drag_fits None = true
drag_fits (Some drag) =
    (is_viewer drag.presser && path_fits drag.path)
    && (coordinates_fit drag.start && coordinates_fit drag.last)

-- none if the drag is out of its ranges
unfoldable pub plane_of_parts : PlaneParts → Option Plane
plane_of_parts parts =
    if drag_fits parts.drag
    then Some (record { over = over_of parts.over; drag = parts.drag })
    else None

-- ---- laws

-- a state in its ranges
pub record IsFitting (plane : Plane) : Type 0 where
  pub viewers : length plane.over ≡ MAX_VIEWERS
  pub drag : IsTrue (drag_fits plane.drag)

-- the parts of a state in its ranges give that state
abbrev pub PartsArePlanes : Type 0
PartsArePlanes = (plane : Plane) → IsFitting plane
    → plane_of_parts (parts_of_plane plane) ≡ Some plane

-- if parts give a state, that state has the same parts
abbrev pub PlanesHaveOneParts : Type 0
PlanesHaveOneParts = (parts : PlaneParts) (plane : Plane) → parts.over < 2 ^ MAX_VIEWERS
    → plane_of_parts parts ≡ Some plane → parts_of_plane plane ≡ parts

abbrev pub contact_fits : Option Contact → Bool
contact_fits None = true
contact_fits (Some contact) = coordinates_fit contact.point && path_fits contact.path

abbrev pub pair_fits : Vec2 → Bool
pair_fits pair = coordinate_fits pair.x && coordinate_fits pair.y

-- the values that determine a drag, in their ranges
pub record AreFitting (fields : PlaneFields) : Type 0 where
  pub max : IsTrue (pair_fits fields.max_position)
  pub min : IsTrue (pair_fits fields.min_position)
  pub offset : IsTrue (coordinates_fit fields.offset)

-- the state and the fields after a pointer, in their ranges
pub record LeavesFitting (pointed : PlanePointed) : Type 0 where
  pub plane : IsFitting pointed.plane
  pub fields : AreFitting pointed.fields

-- a pointer of a viewer leaves all in range, if its contact is within the limit
abbrev pub DraggedPlanesFit : Type 0
DraggedPlanesFit = (plane : Plane) (fields : PlaneFields) (pointer : PlanePointer)
    → IsFitting plane → AreFitting fields → IsTrue (is_viewer pointer.who)
    → IsTrue (contact_fits pointer.contact) → LeavesFitting (point plane fields pointer)

-- ---- what is sent

-- the value has the type of the field by which it leaves, and a point is in its range
abbrev pub reply_fits : SentEvent → Bool
reply_fits reply =
    option_map_or (λ (row : FieldRow). are_same row.field_type (type_of reply.value))
    (row_at PlaneSensor reply.field)
    false
    && option_map_or coordinates_fit (triple_of reply.value) true

-- if the ray meets the plane within the limit, all that is sent fits
abbrev pub SentValuesFit : Type 0
SentValuesFit = (plane : Plane) (fields : PlaneFields) (pointer : PlanePointer)
    → IsFitting plane → AreFitting fields
    → IsTrue (option_map_or coordinates_fit pointer.tracked true)
    → IsTrue (list_all reply_fits (point plane fields pointer).replies)
