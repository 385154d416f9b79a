-- The worlds that a snapshot can be of: each value is in the range of its field (ISO/IEC 19775-1,
-- field semantics; the ranges are our choice).
use Rattle.std.specs.Prelude.{◌≡◌, ℕ, ◌+◌, ◌++◌, ◌^◌, ◌<◌, ◌≤◌, ◌==◌, ◌&&◌, is_none, nat_le, nat_lt, Bool, true, false, List, [], ◌∷◌, length, Option, Some, None, slice_get, if◌then◌else◌}
use Rattle.std.specs.List.{list_all}
use Rattle.std.specs.Option.{option_and_then, option_map_or}
use Rattle.x3d_values.specs.Ranges.{max_inputs}
use Rattle.x3d_values.specs.declared.field_type.FieldType.{FieldType}
use Rattle.x3d_values.specs.declared.fields.Fields.{Fields}
use Rattle.x3d_values.specs.declared.fields.Position.{Position}
use Rattle.x3d_values.specs.declared.node_type.NodeType.{NodeType}
use Rattle.x3d_values.specs.declared.node_type.NodeType.TheVariants.{BooleanSequencer, IntegerSequencer, TimeSensor}
use Rattle.x3d_values.specs.declared.ranges.TheConstants.{MAX_VIEWERS}
use Rattle.x3d_values.specs.declared.value.Value.{Value}
use Rattle.x3d_values.specs.Access.{sends}
use Rattle.x3d_values.specs.Tables.{FieldRowView, rows}
use Rattle.snapshot_codec.specs.Fields.{kept_field, kept_fits}
use Rattle.snapshot_codec.specs.Parts.{cycle_fits, place_fits}
use Rattle.snapshot_codec.specs.Trace.{is_moment, typed_fits}
use Rattle.sensor_plane.specs.declared.drag.Drag.{Drag}
use Rattle.sensor_plane.specs.declared.pointing.PointingState.{PointingState}
use Rattle.sensor_plane.specs.declared.pointing.PointingState.TheVariants.{Plane}
use Rattle.sensor_plane.specs.Pointing.{pointing_fits}
use Rattle.pick_core.specs.Paths.{leads_to}
use Rattle.scene_core.specs.Scene.{SceneView, shapes_of}
use Rattle.scene_core.specs.Shape.{Shape, rows_of}
use Rattle.cascade_trace.specs.declared.trace.TraceLine.{TraceLine}
use Rattle.cascade_world.specs.declared.world.WorldData.{WorldData}

-- -- the fields of a node: those of its type, followed by those that it declares, if it is a
-- Script

-- a value for each of these rows, of which the first has number n: for an inputOutput field a value
-- of the row's type, in the range of the type, and otherwise no value
abbrev pub values_fit : NodeType → ℕ → List FieldRowView → List (Option Value) → Bool
values_fit node_type n [] [] = true
values_fit node_type n [] (value ∷ values) = false
values_fit node_type n (row ∷ others) [] = false
values_fit node_type n (row ∷ others) (value ∷ values) =
    kept_fits (kept_field node_type n row.access row.field_type) value
    && values_fit node_type (n + 1) others values

-- only sequencers have a position, of 32 bits
abbrev pub position_fits : NodeType → Position → Bool
position_fits BooleanSequencer position = place_fits position.at
position_fits IntegerSequencer position = place_fits position.at
position_fits _ position = is_none position.at

-- the node keeps for each field what its row says
abbrev pub fields_fit : NodeType → List FieldRowView → Fields → Bool
fields_fit node_type declared fields =
    values_fit node_type 0 (rows node_type ++ declared) fields.values
    && position_fits node_type fields.position

-- ---- the nodes

-- only a TimeSensor runs cycles
abbrev pub time_fits : NodeType → Option ℕ → Bool
time_fits TimeSensor cycle = cycle_fits cycle
time_fits _ cycle = is_none cycle

-- a node of this shape may keep these fields, this cycle and this pointing state
abbrev pub node_fits : Shape → Fields → Option ℕ → PointingState → Bool
node_fits s fields cycle state =
    fields_fit s.node_type s.declared fields
    && (time_fits s.node_type cycle && pointing_fits s.node_type state)

-- node by node; each of the lists has one item for each node
abbrev pub nodes_fit : List Shape → List Fields → List (Option ℕ) → List PointingState → Bool
nodes_fit [] fields cycles pointing =
    (length fields == 0) && ((length cycles == 0) && (length pointing == 0))
nodes_fit (s ∷ shapes) [] cycles pointing = false
nodes_fit (s ∷ shapes) (f ∷ fields) [] pointing = false
nodes_fit (s ∷ shapes) (f ∷ fields) (c ∷ cycles) [] = false
nodes_fit (s ∷ shapes) (f ∷ fields) (c ∷ cycles) (u ∷ pointing) =
    node_fits s f c u && nodes_fit shapes fields cycles pointing

-- ---- the drags

-- the path kept for a drag leads to a list that holds the sensor
abbrev pub drag_leads : SceneView → ℕ → Option Drag → Bool
drag_leads scene node None = true
drag_leads scene node (Some drag) = leads_to scene None drag.path node

abbrev pub leads : SceneView → ℕ → PointingState → Bool
leads scene node (Plane plane) = drag_leads scene node plane.drag
leads scene node _ = true

-- node by node; the first has number n
abbrev pub all_lead : SceneView → ℕ → List PointingState → Bool
all_lead scene n [] = true
all_lead scene n (state ∷ states) = leads scene n state && all_lead scene (n + 1) states

-- ---- the trace

-- the type of the events that a field sends, if it sends any
abbrev pub sent_type : FieldRowView → Option FieldType
sent_type row = if sends row.access then Some row.field_type else None

-- the type of the events that a node sends by its field of that number, if it sends any
abbrev pub output_type : List Shape → ℕ → ℕ → Option FieldType
output_type shapes node field =
    option_and_then sent_type
    (slice_get (option_map_or rows_of (slice_get shapes node) []) field)

-- an event that was sent: at 0 to 10^18 microseconds, with a value that its output may send
abbrev pub line_fits : List Shape → TraceLine → Bool
line_fits shapes line =
    nat_le line.input max_inputs
    && (is_moment line.time
    && ((nat_lt line.source.node (2 ^ 32) && nat_lt line.source.field (2 ^ 16))
    && typed_fits (output_type shapes line.source.node line.source.field) line.value))

-- ---- a world

pub record WorldFits (shapes : List Shape) (w : WorldData) : Type 0 where
  pub count : w.applied ≤ max_inputs
  pub last : is_moment w.last_time ≡ true
  pub nodes : nodes_fit shapes w.fields w.sensors w.pointing ≡ true
  pub buttons : length w.buttons ≡ MAX_VIEWERS
  pub lines : list_all (line_fits shapes) w.trace ≡ true

-- a snapshot of the scene can be of this world; the nodes of the scene have numbers of 32 bits, and
-- drags lead to their sensors
pub record FitsScene (scene : SceneView) (w : WorldData) : Type 0 where
  pub few : length scene.nodes < 2 ^ 32
  pub world : WorldFits (shapes_of scene) w
  pub paths : all_lead scene 0 w.pointing ≡ true
