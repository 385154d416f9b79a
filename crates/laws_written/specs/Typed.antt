-- What the nodes of a world keep has their fields' types (ISO/IEC 19775-1, field types).
use Rattle.std.specs.Prelude.{ℕ, List, Option}
use Rattle.x3d_values.specs.Stamp.{StampedView}
use Rattle.proto_flat.specs.declared.flat.Flat.{Flat}
use Rattle.scene_core.specs.declared.scene.Route.{Route}
use Rattle.scene_core.specs.Scene.{SceneView, shapes_of}
use Rattle.laws_worlds.specs.Nodes.{RunsAll}
use Rattle.cascade_core.specs.Apply.{world}
use Rattle.cascade_core.specs.Course.{Scripted}
use Rattle.cascade_world.specs.declared.world.WorldData.{WorldData}
use Rattle.share_law.specs.Cascade.{cascade}
use Rattle.share_law.specs.Network.{Network}
use Rattle.share_law.specs.Reached.{IsRunning, Reached}
use Rattle.laws_worlds.specs.Fits.{WorldFits}
use Rattle.laws_worlds.specs.Worlds.{AreInputs}
use Rattle.laws_worlds.specs.Opened.{IsOpened}
use Rattle.laws_written.specs.Sound.{AreOfType}

-- this holds in a world that fits
abbrev pub FittingAreOfType : Type 0
FittingAreOfType =
    (scene : SceneView) (w : WorldData) → WorldFits (shapes_of scene) w → AreOfType scene w.fields

-- it holds in every world that inputs in turn lead to in the scene of a text, with no inputs too
abbrev pub WorldsAreOfType : Type 0
WorldsAreOfType =
    (text : List ℕ) (f : Flat) (scene : SceneView) (routes : List Route) (inputs : List StampedView)
    → IsOpened text f scene routes → RunsAll scene → AreInputs inputs
    → AreOfType scene (world scene routes inputs).world.fields

-- it holds in the world of every running viewer, whatever 1 to max_viewers viewers, their host and
-- their network did
abbrev pub RunningWorldsAreOfType : Type 0
RunningWorldsAreOfType =
    (text : List ℕ) (f : Flat) (scene : SceneView) (routes : List Route)
    (mark : List ℕ) (net : Network Scripted)
    → IsOpened text f scene routes → RunsAll scene → Reached (cascade mark scene routes) net
    → (viewer : ℕ) (held : Scripted) (window : List (Option StampedView))
    → IsRunning net viewer held window → AreOfType scene held.world.fields
