-- The scene of what is written of a world's scene is that scene again (ISO/IEC 19775-1, scene
-- graph).
use Rattle.std.specs.Prelude.{◌≡◌, ℕ, List, Ok, Option, Some}
use Rattle.x3d_values.specs.declared.value.Value.{Value}
use Rattle.x3d_values.specs.Stamp.{StampedView}
use Rattle.proto_flat.specs.declared.flat.Flat.{Flat}
use Rattle.proto_meaning.specs.Flat.{flat}
use Rattle.scene_core.specs.declared.scene.Route.{Route}
use Rattle.scene_core.specs.Building.{scene_of}
use Rattle.scene_core.specs.Scene.{SceneView, state_of}
use Rattle.scene_text.specs.Statements.{scene_document}
use Rattle.laws_worlds.specs.Nodes.{RunsAll}
use Rattle.cascade_core.specs.Apply.{world}
use Rattle.cascade_core.specs.Course.{Scripted}
use Rattle.share_law.specs.Cascade.{cascade}
use Rattle.share_law.specs.Network.{Network}
use Rattle.share_law.specs.Reached.{IsRunning, Reached}
use Rattle.laws_worlds.specs.Worlds.{AreInputs}
use Rattle.laws_worlds.specs.Opened.{IsOpened}
use Rattle.laws_written.specs.Again.{IsWrittenOf}
use Rattle.laws_written.specs.Begins.{kept_of}

-- if the scene of a world is written and what is written has a flat form with a scene, that scene
-- is the world's, with what its nodes kept
abbrev pub IsAgain : SceneView → List Route → Scripted → Type 0
IsAgain scene routes w =
    (again : Flat) (next : SceneView)
    → flat (scene_document scene routes w.world.fields) ≡ Ok again → scene_of again ≡ Ok next
    → IsWrittenOf scene routes w.world.fields next

-- IsAgain holds in every world that inputs in turn lead to in the scene of a text
abbrev pub WrittenWorldsAreAgain : Type 0
WrittenWorldsAreAgain =
    (text : List ℕ) (f : Flat) (scene : SceneView) (routes : List Route) (inputs : List StampedView)
    → IsOpened text f scene routes → RunsAll scene → AreInputs inputs
    → IsAgain scene routes (world scene routes inputs)

-- it holds in the world of every running viewer, whatever 1 to max_viewers viewers, their host and
-- their network did
abbrev pub RunningWorldsAreAgain : Type 0
RunningWorldsAreAgain =
    (text : List ℕ) (f : Flat) (scene : SceneView) (routes : List Route)
    (mark : List ℕ) (net : Network Scripted)
    → IsOpened text f scene routes → RunsAll scene → Reached (cascade mark scene routes) net
    → (viewer : ℕ) (held : Scripted) (window : List (Option StampedView))
    → IsRunning net viewer held window → IsAgain scene routes held

-- each value that a node of such a world kept, it keeps in that scene before any event
abbrev pub IsKeptAgain : SceneView → List Route → Scripted → Type 0
IsKeptAgain scene routes w =
    (again : Flat) (next : SceneView)
    → flat (scene_document scene routes w.world.fields) ≡ Ok again → scene_of again ≡ Ok next
    → (n field : ℕ) (v : Value) → kept_of w.world.fields n field ≡ Some v
    → kept_of (state_of next) n field ≡ Some v

abbrev pub WorldsAreKeptAgain : Type 0
WorldsAreKeptAgain =
    (text : List ℕ) (f : Flat) (scene : SceneView) (routes : List Route) (inputs : List StampedView)
    → IsOpened text f scene routes → RunsAll scene → AreInputs inputs
    → IsKeptAgain scene routes (world scene routes inputs)

abbrev pub RunningWorldsAreKeptAgain : Type 0
RunningWorldsAreKeptAgain =
    (text : List ℕ) (f : Flat) (scene : SceneView) (routes : List Route)
    (mark : List ℕ) (net : Network Scripted)
    → IsOpened text f scene routes → RunsAll scene → Reached (cascade mark scene routes) net
    → (viewer : ℕ) (held : Scripted) (window : List (Option StampedView))
    → IsRunning net viewer held window → IsKeptAgain scene routes held
