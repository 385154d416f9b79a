-- What one node does in a world at an event, at a tick of the clock or at a viewer's pointer
-- (ISO/IEC 19775-1, event model; time and pointing device sensor components).
use Rattle.std.specs.Option.{option_map_or}
use Rattle.std.specs.Prelude.{ℕ, ℤ, Bool, false, not, ◌&&◌, ◌==◌, ◌++◌, List, [], Option, Some, None, slice_get, slice_set, if◌then◌else◌}
use Rattle.x3d_values.specs.declared.fields.Fields.{Fields}
use Rattle.x3d_values.specs.declared.node_type.NodeType.{NodeType}
use Rattle.x3d_values.specs.declared.node_type.NodeType.TheVariants.{PlaneSensor, Script}
use Rattle.x3d_values.specs.declared.value.Value.{Value}
use Rattle.x3d_values.specs.declared.value.Value.TheVariants.{SFBool}
use Rattle.react_core.specs.declared.outbox.SentEvent.{SentEvent}
use denote.Enum.Bare.{sameb}
use Rattle.x3d_values.specs.contracts.node_type.NodeType.{the_type}
use Rattle.react_core.specs.Reaction.{reaction, keeps, is_time_sensor}
use Rattle.sensor_core.specs.Timing.{TimeFieldsView, timing_of, with_timing}
use Rattle.sensor_core.specs.Events.{set}
use Rattle.sensor_core.specs.Ticks.{tick}
use Rattle.sensor_plane.specs.declared.numbers.TheConstants.{PLANE_ENABLED}
use Rattle.sensor_plane.specs.declared.pointing.PointingState.{PointingState}
use Rattle.sensor_plane.specs.declared.meeting.SensorPointer.{SensorPointer}
use Rattle.sensor_plane.specs.Meeting.{pointed}
use Rattle.sensor_plane.specs.Pointing.{forgotten, is_state_of}
use Rattle.x3d_values.specs.Pointing.{PointerView}
use Rattle.x3d_values.specs.declared.vector.Vec3.{Vec3}
use Rattle.x3d_values.specs.Tables.{FieldRowView}
use Rattle.sensor_core.specs.declared.touch_numbers.TheConstants.{TOUCH_ENABLED}
use Rattle.scene_core.specs.declared.scene.End.{End}
use Rattle.scene_core.specs.Places.{is_pointing}
use Rattle.scene_core.specs.Scene.{SceneView, type_at}
use Rattle.scene_core.specs.Shape.{Shape, rows_of}
use Rattle.pick_core.specs.Sensors.{is_enabled}
use Rattle.cascade_world.specs.Access.{is_set}
use Rattle.cascade_world.specs.Insides.{Insides, contact_in, place_in}
use Rattle.cascade_world.specs.declared.world.WorldData.{WorldData}
use Rattle.cascade_world.specs.declared.world.Live.{Live}

-- the fields of the nodes and the states of the time sensors and pointing sensors after an answer,
-- and the events sent, in order
pub record NodeAnswer : Type 0 where
  pub fields : List Fields
  pub sensors : List (Option ℕ)
  pub pointing : List PointingState
  pub replies : List SentEvent

-- nothing happens
abbrev pub nothing : WorldData → NodeAnswer
nothing w =
    record { fields = w.fields; sensors = w.sensors; pointing = w.pointing; replies = [] }

-- the world after an answer
abbrev pub answered : WorldData → NodeAnswer → WorldData
answered w a = record w { fields = a.fields; sensors = a.sensors; pointing = a.pointing }

abbrev pub with_answer : Live → NodeAnswer → Live
with_answer live a = record live { world = answered live.world a }

-- ---- an event comes to a node

-- a node of this type with these fields reacts, at the time of the input
abbrev pub reacting : WorldData → End → Value → NodeType → Option Fields → NodeAnswer
reacting w target v kind (Some fields) =
    let r = reaction kind fields target.field v w.last_time in
    record {
      fields = slice_set w.fields target.node r.fields;
      sensors = w.sensors;
      pointing = w.pointing;
      replies = r.replies;
    }
reacting w target v kind None = nothing w

-- a time sensor follows its own rules: it keeps these values, and runs this cycle or none
abbrev pub setting : WorldData → End → Value → Fields → Option TimeFieldsView
    → Option (Option ℕ) → NodeAnswer
setting w target v fields (Some timing) (Some cycle) =
    let a = set cycle timing target.field v in
    record {
      fields = slice_set w.fields target.node (with_timing fields a.timing);
      sensors = slice_set w.sensors target.node a.cycle;
      pointing = w.pointing;
      replies = a.replies;
    }
setting w target v fields (Some timing) None = nothing w
setting w target v fields None cycle = nothing w

abbrev pub setting_at : WorldData → End → Value → Option Fields → NodeAnswer
setting_at w target v (Some fields) =
    setting w target v fields (timing_of fields) (slice_get w.sensors target.node)
setting_at w target v None = nothing w

-- the number of the field `enabled` of a pointing sensor
abbrev pub enabled_field : NodeType → ℕ
enabled_field PlaneSensor = PLANE_ENABLED
enabled_field _ = TOUCH_ENABLED

-- an event turns a pointing sensor of this type off
abbrev pub turns_off : NodeType → ℕ → Value → Bool
turns_off kind field (SFBool on) = (field == enabled_field kind) && not on
turns_off kind field _ = false

-- the states of the pointing sensors after one of this type has forgotten its pointers, and the
-- events that this sends, if its state is of its type
abbrev pub forgets : WorldData → ℕ → NodeType → Option PointingState → List PointingState
forgets w node kind (Some state) =
    if is_state_of kind state then slice_set w.pointing node (forgotten state).state else w.pointing
forgets w node kind None = w.pointing

abbrev pub forgotten_by : NodeType → Option PointingState → List SentEvent
forgotten_by kind (Some state) = if is_state_of kind state then (forgotten state).replies else []
forgotten_by kind None = []

-- a pointing sensor forgets its pointers, after what it has answered
abbrev pub forgetting : WorldData → ℕ → NodeType → NodeAnswer → Option PointingState → NodeAnswer
forgetting w node kind a state = record {
  fields = a.fields;
  sensors = a.sensors;
  pointing = forgets w node kind state;
  replies = a.replies ++ forgotten_by kind state;
}

-- a pointing sensor reacts like any node, and forgets its pointers if it is turned off, even if it
-- was off before
abbrev pub touching : WorldData → End → Value → NodeType → Option Fields → NodeAnswer
touching w target v kind fields =
    let a = reacting w target v kind fields in
    if turns_off kind target.field v
    then forgetting w target.node kind a (slice_get w.pointing target.node)
    else a

-- a Script has the fields that it declares, in addition to those of its type
abbrev pub is_script : NodeType → Bool
is_script kind = sameb the_type kind Script

-- a node with these fields sets the field that an event comes to, and sends the value
abbrev pub keeping : WorldData → End → Value → Fields → NodeAnswer
keeping w target v fields =
    let r = keeps fields target.field v in
    record {
      fields = slice_set w.fields target.node r.fields;
      sensors = w.sensors;
      pointing = w.pointing;
      replies = r.replies;
    }

-- a Script that isn't run sets and sends its inputOutput fields, both its own and those that it
-- declares; an event at one of its inputOnly fields does nothing
abbrev pub not_run : WorldData → End → Value → Option FieldRowView → Option Fields → NodeAnswer
not_run w target v field (Some fields) =
    if is_set v field then keeping w target v fields else nothing w
not_run w target v field None = nothing w

-- what a node of this type does at an event that comes to this field
abbrev pub answer_by : WorldData → End → Value → NodeType → Option FieldRowView → NodeAnswer
answer_by w target v kind field =
    if is_time_sensor kind
    then setting_at w target v (slice_get w.fields target.node)
    else (if is_pointing kind
    then touching w target v kind (slice_get w.fields target.node)
    else (if is_script kind
    then not_run w target v field (slice_get w.fields target.node)
    else reacting w target v kind (slice_get w.fields target.node)))

abbrev pub answer_as : WorldData → End → Value → Option Shape → NodeAnswer
answer_as w target v (Some shape) =
    answer_by w target v shape.node_type (slice_get (rows_of shape) target.field)
answer_as w target v None = nothing w

-- what the target of an event does; nothing if there is no such node
unfoldable pub answer : List Shape → WorldData → End → Value → NodeAnswer
answer shapes w target v = answer_as w target v (slice_get shapes target.node)

-- ---- the clock ticks

-- a time sensor ticks: it keeps its values, and runs this cycle or none
abbrev pub ticking : WorldData → ℕ → ℤ → Option TimeFieldsView → Option (Option ℕ) → NodeAnswer
ticking w node now (Some timing) (Some cycle) =
    let t = tick cycle timing now in
    record {
      fields = w.fields;
      sensors = slice_set w.sensors node t.cycle;
      pointing = w.pointing;
      replies = t.replies;
    }
ticking w node now (Some timing) None = nothing w
ticking w node now None cycle = nothing w

abbrev pub ticking_at : WorldData → ℕ → ℤ → Option Fields → NodeAnswer
ticking_at w node now (Some fields) =
    ticking w node now (timing_of fields) (slice_get w.sensors node)
ticking_at w node now None = nothing w

-- what a time sensor does at a tick of the clock, by its current fields
unfoldable pub ticked : WorldData → ℕ → ℤ → NodeAnswer
ticked w node now = ticking_at w node now (slice_get w.fields node)

-- ---- a viewer points

-- a pointing sensor with these fields handles a viewer's pointer
abbrev pub meeting : WorldData → ℕ → SensorPointer → PointingState → Option Fields → NodeAnswer
meeting w node at state (Some fields) =
    let p = pointed state fields at w.last_time in
    record {
      fields = slice_set w.fields node p.fields;
      sensors = w.sensors;
      pointing = slice_set w.pointing node p.state;
      replies = p.replies;
    }
meeting w node at state None = nothing w

-- a viewer's pointer as a sensor sees it: whether its button was down before, where it is inside
-- the sensor, and where its ray meets the plane of a drag, which was fixed before
abbrev pub pointer_at : PointerView → Bool → Insides → Option Vec3 → ℕ → SensorPointer
pointer_at p before is tracked node = record {
  who = p.who;
  before = before;
  down = p.down;
  place = place_in is node;
  contact = contact_in is node;
  tracked = tracked;
}

-- the sensor is enabled by its current fields, and its state is of its type
abbrev pub is_met : SceneView → WorldData → ℕ → PointingState → Bool
is_met scene w node state =
    is_enabled scene w.fields node
    && option_map_or (λ kind. is_state_of kind state) (type_at scene node) false

abbrev pub met_as : SceneView → WorldData → ℕ → SensorPointer → Option PointingState → NodeAnswer
met_as scene w node at None = nothing w
met_as scene w node at (Some state) =
    if is_met scene w node state then meeting w node at state (slice_get w.fields node)
    else nothing w

-- what a pointing sensor does at a pointer; one that isn't enabled is skipped
unfoldable pub met : SceneView → WorldData → ℕ → SensorPointer → NodeAnswer
met scene w node at = met_as scene w node at (slice_get w.pointing node)
