-- Worlds in which each value is in the range of its field (ISO/IEC 19775-1, field semantics; the
-- ranges are our choice). cascade_world defines when a world fits.
use Rattle.std.specs.Prelude.{◌≡◌, ℕ, ◌+◌, ◌^◌, ◌≤◌, Bool, true, List, [], ◌∷◌, length, Option, Some, slice_get}
use Rattle.std.specs.Option.{option_map, option_map_or}
use Rattle.x3d_values.specs.declared.field_type.FieldType.{FieldType}
use Rattle.x3d_values.specs.declared.stamped.Cause.{Cause}
use Rattle.x3d_values.specs.declared.stamped.Cause.TheVariants.{Clock, Pointer}
use Rattle.x3d_values.specs.Ranges.{is_viewer, is_input_number, is_input_time}
use Rattle.x3d_values.specs.Stamp.{StampedView}
use Rattle.x3d_values.specs.Tables.{FieldRowView}
use Rattle.scene_core.specs.declared.scene.Route.{Route}
use Rattle.scene_core.specs.Scene.{SceneView, shapes_of}
use Rattle.scene_core.specs.Shape.{Shape, rows_of}
use Rattle.laws_worlds.specs.Nodes.{RunsAll}
use Rattle.cascade_core.specs.Apply.{apply, opening, untold}
use Rattle.cascade_core.specs.Course.{Scripted}
use Rattle.cascade_core.specs.Installing.{StatesFit}
use Rattle.cascade_core.specs.Scripts.{scripts_in, states_of}
use Rattle.cascade_world.specs.declared.world.WorldData.{WorldData}
pub use Rattle.cascade_world.specs.Fits.{time_fits, node_fits, nodes_fit, line_fits, all_lead}
pub use Rattle.cascade_world.specs.Fits.{WorldFits}
use Rattle.cascade_world.specs.Fits.{output_type}

-- -- what a field may receive; what it may send is cascade_world's `output_type`

-- the type of a node's field, by the numbers of both
abbrev pub input_type : List Shape → ℕ → ℕ → Option FieldType
input_type shapes node field =
    option_map (λ (row : FieldRowView). row.field_type)
    (slice_get (option_map_or rows_of (slice_get shapes node) []) field)

-- ---- a world

-- a world with its scripts: each script has a state, of its kind. The path that is kept for a drag
-- leads to a list that contains the sensor.
pub record ScriptedFits (scene : SceneView) (w : Scripted) : Type 0 where
  pub world : WorldFits (shapes_of scene) w.world
  pub paths : all_lead scene 0 w.world.pointing ≡ true
  pub states : StatesFit scene w.states

-- the states in which the scene's scripts start are states of their kinds
abbrev pub StartsFit : SceneView → Type 0
StartsFit scene = StatesFit scene (states_of (scripts_in scene))

-- ---- an input

-- each route leads from an output to a field of the same type
abbrev pub Joins : List Shape → Route → Type 0
Joins shapes r = (t : FieldType) × (output_type shapes r.source.node r.source.field ≡ Some t)
    × (input_type shapes r.target.node r.target.field ≡ Some t)

abbrev pub AllJoin : List Shape → List Route → Type 0
AllJoin shapes [] = Unit {0}
AllJoin shapes (r ∷ routes) = (Joins shapes r) × (AllJoin shapes routes)

-- a stage for events: a scene of at most 2^32 nodes, routes that join, and scripts that all run
pub record IsStaged (scene : SceneView) (routes : List Route) : Type 0 where
  pub few : length (shapes_of scene) ≤ 2 ^ 32
  pub joined : AllJoin (shapes_of scene) routes
  pub run : RunsAll scene

-- only a viewer points
abbrev pub is_event : Cause → Bool
is_event Clock = true
is_event (Pointer p) = is_viewer p.who

-- the next input of a world, up to the last that there may be
pub record IsNext (w : WorldData) (input : StampedView) : Type 0 where
  pub next : input.number ≡ w.applied + 1
  pub number : is_input_number input.number ≡ true
  pub time : is_input_time input.time ≡ true
  pub cause : is_event input.cause ≡ true

-- a world that fits still fits after such an input
abbrev pub StepsFit : Type 0
StepsFit =
    (scene : SceneView) (routes : List Route) (w : Scripted) (input : StampedView)
    → IsStaged scene routes → IsNext w.world input
    → ScriptedFits scene w → ScriptedFits scene (apply scene routes w input)

-- ---- input 0

-- if the world in which nothing has happened fits, and so do the states in which scripts start,
-- then the opening world fits
abbrev pub OpeningsFit : Type 0
OpeningsFit =
    (scene : SceneView) (routes : List Route)
    → IsStaged scene routes → WorldFits (shapes_of scene) (untold scene) → StartsFit scene
    → ScriptedFits scene (opening scene routes)
