-- Every world that a document leads to fits, and has a snapshot.
use Rattle.std.specs.Prelude.{◌≡◌, ◌≤◌, ◌<◌, ◌^◌, ◌&&◌, Bool, true, List, length, Ok}
use Rattle.std.specs.List.{list_all}
use Rattle.x3d_values.specs.Ranges.{is_input_number, is_input_time}
use Rattle.x3d_values.specs.Stamp.{StampedView}
use Rattle.proto_flat.specs.declared.flat.Flat.{Flat}
use Rattle.scene_core.specs.declared.scene.Route.{Route}
use Rattle.scene_core.specs.Building.{scene_of}
use Rattle.scene_core.specs.Scene.{SceneView}
use Rattle.route_core.specs.Resolved.{resolved}
use Rattle.cascade_core.specs.Apply.{world}
use Rattle.cascade_core.specs.InOrder.{AreInOrder}
use Rattle.laws_worlds.specs.Nodes.{RunsAll}
use Rattle.snapshot_core.specs.Loading.{HasSnapshot}
use Rattle.laws_worlds.specs.Fits.{ScriptedFits, is_event}
use Rattle.laws_worlds.specs.Openings.{IsCountable}

-- the scene and the routes of a document: its nodes can be numbered in 32 bits, and its lengths can
-- be counted
pub record IsDocument (flat : Flat) (scene : SceneView) (routes : List Route) : Type 0 where
  pub is_scene : scene_of flat ≡ Ok scene
  pub are_routes : resolved flat scene ≡ Ok routes
  pub countable : IsCountable scene
  pub numbered : length flat.nodes ≤ 2 ^ 32

-- the number and the time are in their ranges, and only a viewer points
abbrev pub is_input : StampedView → Bool
is_input s = is_input_number s.number && (is_input_time s.time && is_event s.cause)

-- numbered from 1, each later than the one before, and all in their ranges
pub record AreInputs (inputs : List StampedView) : Type 0 where
  pub in_order : AreInOrder inputs
  pub in_range : list_all is_input inputs ≡ true

-- the world of a document after such inputs fits, if all scripts of the scene run
abbrev pub WorldsFit : Type 0
WorldsFit =
    (flat : Flat) (scene : SceneView) (routes : List Route) (inputs : List StampedView)
    → IsDocument flat scene routes → RunsAll scene → AreInputs inputs
    → ScriptedFits scene (world scene routes inputs)

-- that world has a snapshot, which counts the events that were sent in 64 bits
abbrev pub WorldsHaveSnapshots : Type 0
WorldsHaveSnapshots =
    (flat : Flat) (scene : SceneView) (routes : List Route) (inputs : List StampedView)
    → IsDocument flat scene routes → RunsAll scene → AreInputs inputs
    → length (world scene routes inputs).world.trace < 2 ^ 64
    → HasSnapshot scene (world scene routes inputs)
