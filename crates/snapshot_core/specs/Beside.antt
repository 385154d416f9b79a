-- The part of a node after its fields in a snapshot, by the node's type (our choice).
use Rattle.std.specs.Prelude.{ℕ, ◌&&◌, Bool, false, is_none, List, [], Option, Some, None}
use Rattle.std.specs.Option.{option_map}
use Rattle.byte_codec.specs.Codec.{Codec, refined, worded, named, pair}
use Rattle.x3d_values.specs.declared.fields.Position.{Position}
use Rattle.x3d_values.specs.declared.node_type.NodeType.{NodeType}
use Rattle.x3d_values.specs.declared.node_type.NodeType.TheVariants.{TimeSensor, TouchSensor, PlaneSensor, BooleanSequencer, IntegerSequencer}
use Rattle.snapshot_codec.specs.declared.plane.Drag.{Drag as DragBytes}
use Rattle.snapshot_codec.specs.declared.plane.Plane.{Plane as PlaneBytes}
use Rattle.snapshot_codec.specs.declared.viewers.Touch.{Touch as TouchBytes}
use Rattle.snapshot_codec.specs.Parts.{cycle_codec, touch_codec, plane_codec, position_codec}
use Rattle.sensor_core.specs.Parts.{number_of, touch_of_parts}
use Rattle.sensor_core.specs.Touches.{TouchStateView}
use Rattle.sensor_plane.specs.declared.drag.Drag.{Drag}
use Rattle.sensor_plane.specs.declared.pointing.PointingState.{PointingState}
use Rattle.sensor_plane.specs.declared.pointing.PointingState.TheVariants as state
use Rattle.sensor_plane.specs.PlaneParts.{plane_of_parts}
use Rattle.sensor_plane.specs.Planes.{Plane}
use Rattle.sensor_plane.specs.Pointing.{is_no_sensor, plane_fits, touch_fits}
use Rattle.snapshot_core.specs.declared.beside.Beside.{Beside}
use Rattle.snapshot_core.specs.declared.version.Version.{Version}
use Rattle.snapshot_core.specs.declared.version.Version.TheVariants.{One, Two, Three}
use Rattle.snapshot_core.specs.Opening.{viewers_of}

-- a value without bytes: x and no other value
abbrev pub always : {A : Type 0} → A → (A → Bool) → Codec A
always x is_x = record { write = λ _. []; read = λ bytes. Some (x, bytes); fits = is_x }

-- no value at all: nothing is read
abbrev pub never : {A : Type 0} → Codec A
never = record { write = λ _. []; read = λ _. None; fits = λ _. false }

-- a TimeSensor's cycle
unfoldable pub time_part : NodeType → Codec (Option ℕ)
time_part TimeSensor = cycle_codec
time_part _ = always None is_none

-- ---- a TouchSensor

abbrev pub touch_in : TouchBytes → Option TouchStateView
touch_in bytes = touch_of_parts (record { over = bytes.over; presser = bytes.presser })

abbrev pub touch_bytes : TouchStateView → TouchBytes
touch_bytes touch = record { over = number_of touch.over; presser = touch.presser }

-- in its ranges, with only viewers that a version has bits for
abbrev pub touch_has_bytes : Version → TouchStateView → Bool
touch_has_bytes version touch =
    touch_fits (state.Touch touch) && (touch_codec (viewers_of version)).fits (touch_bytes touch)

-- the viewers over a TouchSensor, and the viewer that presses it
unfoldable pub pointers_codec : Version → Codec TouchStateView
pointers_codec version =
    refined touch_in touch_bytes (touch_has_bytes version) (touch_codec (viewers_of version))

-- ---- a PlaneSensor

abbrev pub drag_in : DragBytes → Drag
drag_in drag = record {
  presser = drag.presser;
  start = drag.start;
  last = drag.last;
  path = drag.path;
}

abbrev pub drag_bytes : Drag → DragBytes
drag_bytes drag = record {
  presser = drag.presser;
  start = drag.start;
  last = drag.last;
  path = drag.path;
}

abbrev pub plane_in : PlaneBytes → Option Plane
plane_in bytes =
    plane_of_parts (record { over = bytes.over; drag = option_map drag_in bytes.drag })

abbrev pub plane_bytes : Plane → PlaneBytes
plane_bytes plane =
    record { over = number_of plane.over; drag = option_map drag_bytes plane.drag }

-- the viewers over a PlaneSensor, and its drag
unfoldable pub drags_codec : Codec Plane
drags_codec = refined plane_in plane_bytes (λ plane. plane_fits (state.Plane plane)) plane_codec

-- ---- where viewers point

-- the bytes of a state as that of a TouchSensor
abbrev pub touch_text : Version → PointingState → List ℕ
touch_text version (state.Touch touch) = (pointers_codec version).write touch
touch_text version _ = []

abbrev pub has_touch_text : Version → PointingState → Bool
has_touch_text version (state.Touch touch) = touch_has_bytes version touch
has_touch_text version _ = false

unfoldable pub touch_part : Version → Codec PointingState
touch_part version =
    worded (touch_text version) (λ touch. Some (state.Touch touch)) (has_touch_text version)
    (pointers_codec version)

-- the bytes of a state as that of a PlaneSensor
abbrev pub plane_text : PointingState → List ℕ
plane_text (state.Plane plane) = drags_codec.write plane
plane_text _ = []

abbrev pub plane_state : Codec PointingState
plane_state = worded plane_text (λ plane. Some (state.Plane plane)) plane_fits drags_codec

-- version 1 has no PlaneSensors
unfoldable pub plane_part : Version → Codec PointingState
plane_part One = never
plane_part Two = plane_state
plane_part Three = plane_state

-- the pointing state of a node
unfoldable pub pointing_part : Version → NodeType → Codec PointingState
pointing_part version TouchSensor = touch_part version
pointing_part version PlaneSensor = plane_part version
pointing_part version _ = always state.NoSensor is_no_sensor

-- ---- a node

-- a sequencer's position
unfoldable pub position_part : NodeType → Codec Position
position_part BooleanSequencer = position_codec
position_part IntegerSequencer = position_codec
position_part _ = always (record { at = None }) (λ position. is_none position.at)

-- the part after the fields, in snapshots of a version
unfoldable pub beside_codec : Version → NodeType → Codec Beside
beside_codec version node_type =
    named (λ t. record { time = t.0; pointing = t.1.0; position = t.1.1 })
    (λ b. (b.time, (b.pointing, b.position)))
    (pair (time_part node_type)
    (pair (pointing_part version node_type) (position_part node_type)))
