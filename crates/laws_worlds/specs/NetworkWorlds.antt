-- The worlds of a scene that was read from a text. The only condition on the text is that all
-- scripts of the scene run. A snapshot counts the events that were sent in 64 bits.
use Rattle.std.specs.Prelude.{◌≡◌, ℕ, ◌<◌, ◌^◌, List, length, Option, Some, slice_get}
use Rattle.x3d_values.specs.Stamp.{StampedView}
use Rattle.proto_flat.specs.declared.flat.Flat.{Flat}
use Rattle.scene_core.specs.declared.scene.Route.{Route}
use Rattle.scene_core.specs.Scene.{SceneView}
use Rattle.cascade_core.specs.Apply.{world}
use Rattle.laws_worlds.specs.Nodes.{RunsAll}
use Rattle.cascade_core.specs.Course.{Scripted}
use Rattle.snapshot_core.specs.Loading.{HasSnapshot}
use Rattle.share_law.specs.Cascade.{cascade}
use Rattle.share_law.specs.Network.{Network}
use Rattle.share_law.specs.Reached.{Reached, IsRunning}
use Rattle.share_law.specs.Viewer.{Shot}
use Rattle.laws_worlds.specs.Fits.{ScriptedFits}
use Rattle.laws_worlds.specs.Worlds.{AreInputs}
use Rattle.laws_worlds.specs.Opened.{IsOpened}

-- every world that inputs in turn lead to fits
abbrev pub WorldsOfTextsFit : Type 0
WorldsOfTextsFit =
    (text : List ℕ) (f : Flat) (scene : SceneView) (routes : List Route) (inputs : List StampedView)
    → IsOpened text f scene routes → RunsAll scene → AreInputs inputs
    → ScriptedFits scene (world scene routes inputs)

-- every such world has a snapshot that can be read again
abbrev pub WorldsOfTextsHaveSnapshots : Type 0
WorldsOfTextsHaveSnapshots =
    (text : List ℕ) (f : Flat) (scene : SceneView) (routes : List Route) (inputs : List StampedView)
    → IsOpened text f scene routes → RunsAll scene → AreInputs inputs
    → length (world scene routes inputs).world.trace < 2 ^ 64
    → HasSnapshot scene (world scene routes inputs)

-- so does each world that a viewer saved, whatever 1 to max_viewers viewers, their host and their
-- network did
abbrev pub SavedOfTextsHaveSnapshots : Type 0
SavedOfTextsHaveSnapshots =
    (text : List ℕ) (f : Flat) (scene : SceneView) (routes : List Route)
    (mark : List ℕ) (net : Network Scripted)
    → IsOpened text f scene routes → RunsAll scene → Reached (cascade mark scene routes) net
    → (s : ℕ) (shot : Shot Scripted) → slice_get net.shots s ≡ Some shot
    → length shot.state.world.trace < 2 ^ 64 → HasSnapshot scene shot.state

-- so does each world that a viewer runs with
abbrev pub RunningOfTextsHaveSnapshots : Type 0
RunningOfTextsHaveSnapshots =
    (text : List ℕ) (f : Flat) (scene : SceneView) (routes : List Route)
    (mark : List ℕ) (net : Network Scripted)
    → IsOpened text f scene routes → RunsAll scene → Reached (cascade mark scene routes) net
    → (viewer : ℕ) (held : Scripted) (window : List (Option StampedView))
    → IsRunning net viewer held window
    → length held.world.trace < 2 ^ 64 → HasSnapshot scene held
