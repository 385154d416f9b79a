-- A world whose scene runs scripts, and the course of one of its inputs (ISO/IEC 19775-1, event
-- model, Script).
use Rattle.std.specs.Prelude.{ℕ, ℤ, List, Option, length, slice_get}
use Rattle.std.specs.Option.{option_map_or}
use Rattle.scene_core.specs.declared.scene.Route.{Route}
use Rattle.scene_core.specs.Scene.{SceneView, shapes_of}
use Rattle.scene_core.specs.Shape.{Shape}
use Rattle.script_host.specs.Hosting.{SlotView}
use Rattle.script_running.specs.Ports.{PortsView}
use Rattle.script_slots.specs.Settling.{DueScriptsView, unsettled}
use Rattle.script_running.specs.Runs.{runs_of}
use Rattle.script_running.specs.declared.run.Run.{Run}
use Rattle.cascade_core.specs.Scripts.{script_from, states_of}
pub use Rattle.script_running.specs.Running.{no_ports}
use Rattle.cascade_core.specs.declared.course.Course as lent
use Rattle.cascade_core.specs.declared.routed.RoutedScene.{RoutedScene}
use Rattle.cascade_world.specs.declared.world.Live.{Live}
use Rattle.cascade_world.specs.declared.world.WorldData.{WorldData}

-- what events depend on: the fields of the nodes, the routes, and the scripts that are run
pub record Wiring : Type 0 where
  pub shapes : List Shape
  pub routes : List Route
  pub runs : List Run

abbrev pub wiring_of : SceneView → List Route → Wiring
wiring_of scene routes =
    record { shapes = shapes_of scene; routes = routes; runs = runs_of scene }

-- ---- worlds

-- a world, and the states of its scripts by their numbers
pub record Scripted : Type 0 where
  pub world : WorldData
  pub states : List (List ℤ)

-- the wiring of a scene with its routes and scripts
abbrev pub wiring_at : RoutedScene → Wiring
wiring_at g = record { shapes = shapes_of g.scene; routes = g.routes; runs = g.runs }

-- a world in the course of an input, and which of its scripts have received an event and which were
-- settled
pub record CourseView : Type 0 where
  pub live : Live
  pub scripts : List SlotView
  pub settling : DueScriptsView

-- the course as the code holds it, whatever its boxes are
abbrev pub seen : {X : Type 0} → lent.Course X → CourseView
seen c = record { live = c.live; scripts = c.scripts; settling = c.settling }

abbrev pub with_live : CourseView → Live → CourseView
with_live c live = record c { live = live }

-- an input begins: no script has received an event, and none is settled
abbrev pub course : Live → List SlotView → CourseView
course live scripts =
    record { live = live; scripts = scripts; settling = unsettled (length scripts) }

abbrev pub ended : CourseView → Scripted
ended c = record { world = c.live.world; states = states_of c.scripts }

-- ---- the scripts of nodes

-- the number of the script of a node, if its script is run
abbrev pub script_of : Wiring → ℕ → Option ℕ
script_of wiring node = script_from 0 wiring.runs node

-- the node of a script
abbrev pub node_of : Wiring → ℕ → ℕ
node_of wiring k = option_map_or (λ (run : Run). run.node) (slice_get wiring.runs k) 0

abbrev pub ports_of : Wiring → ℕ → PortsView
ports_of wiring k = option_map_or (λ (run : Run). run.ports) (slice_get wiring.runs k) no_ports
