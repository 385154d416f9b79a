-- A written scene is the scene (ISO/IEC 19775-1, scene graph; which sizes are too large is our
-- choice).
use Rattle.std.specs.Prelude.{◌≡◌, ◌⊎◌, ℕ, true, List, Option, Ok, Err}
use Rattle.x3d_values.specs.Stamp.{StampedView}
use Rattle.x3d_values.specs.declared.fields.Fields.{Fields}
use Rattle.classic_round_trip.specs.AnyLength.{SpellsAtAnyLength}
use Rattle.proto_flat.specs.declared.fault.ExpandFault.{ExpandFault}
use Rattle.proto_flat.specs.declared.fault.ExpandFaultKind.TheVariants.{TooLarge}
use Rattle.proto_flat.specs.declared.flat.Flat.{Flat}
use Rattle.proto_meaning.specs.Flat.{flat}
use Rattle.route_core.specs.Resolved.{resolved}
use Rattle.scene_core.specs.declared.scene.Route.{Route}
use Rattle.scene_core.specs.Building.{scene_of}
use Rattle.scene_core.specs.Scene.{SceneView, shapes_of, state_of}
use Rattle.scene_text.specs.SceneText.{scene_text}
use Rattle.scene_text.specs.Statements.{scene_document}
use Rattle.laws_worlds.specs.Nodes.{RunsAll}
use Rattle.cascade_core.specs.Apply.{world}
use Rattle.cascade_core.specs.Course.{Scripted}
use Rattle.share_law.specs.Cascade.{cascade}
use Rattle.share_law.specs.Network.{Network}
use Rattle.share_law.specs.Reached.{IsRunning, Reached}
use Rattle.laws_worlds.specs.Worlds.{AreInputs}
use Rattle.laws_worlds.specs.Opened.{IsOpened}
use Rattle.laws_written.specs.Again.{IsWrittenOf}
use Rattle.laws_written.specs.Exist.{IsSceneOrLimit}
use Rattle.laws_written.specs.Fitting.{state_fits}

-- ---- what is written of a scene, with what its nodes keep

-- it has no flat form, because it is too large
pub record IsTooLarge (scene : SceneView) (routes : List Route) (state : List Fields) : Type 0 where
  pub fault : ExpandFault
  pub is_fault : flat (scene_document scene routes state) ≡ Err fault
  pub kind : fault.kind ≡ TooLarge

-- the second scene, that of the flat form, is the first, and the routes are the same
pub record IsSame (scene : SceneView) (routes : List Route) (state : List Fields) (again : Flat)
    (next : SceneView) : Type 0 where
  pub is_written : IsWrittenOf scene routes state next
  pub resolves : resolved again next ≡ Ok routes
  -- the text spells the document that is written, apart from line numbers and the limit of 16 MiB
  pub spells : SpellsAtAnyLength (scene_text scene routes state)
      (scene_document scene routes state)
  -- it is written again in the same way: before any event the second scene has this text
  pub writes : scene_text next routes (state_of next) ≡ scene_text scene routes state

-- it has a flat form, and that has a scene unless chains are too long, or there are too many
-- places; if there is a scene, it is the scene that was written, and the text can be read
pub record IsReadAgain (scene : SceneView) (routes : List Route) (state : List Fields)
    : Type 0 where
  pub again : Flat
  pub is_flat : flat (scene_document scene routes state) ≡ Ok again
  pub exists : IsSceneOrLimit again
  pub same : (next : SceneView) → scene_of again ≡ Ok next → IsSame scene routes state again next

-- it is too large, or it is read again
abbrev pub Stays : SceneView → List Route → List Fields → Type 0
Stays scene routes state = IsTooLarge scene routes state ⊎ IsReadAgain scene routes state

-- ---- the law

-- Stays holds for the scene of every text, in every state that fits it
abbrev pub ScenesStay : Type 0
ScenesStay =
    (text : List ℕ) (f : Flat) (scene : SceneView) (routes : List Route) (state : List Fields)
    → IsOpened text f scene routes → state_fits (shapes_of scene) state ≡ true
    → Stays scene routes state

-- Stays holds in every world that inputs in turn lead to in the scene of a text, if its scripts run
abbrev pub WorldsStay : Type 0
WorldsStay =
    (text : List ℕ) (f : Flat) (scene : SceneView) (routes : List Route) (inputs : List StampedView)
    → IsOpened text f scene routes → RunsAll scene → AreInputs inputs
    → Stays scene routes (world scene routes inputs).world.fields

-- it holds in the world of every running viewer, whatever 1 to max_viewers viewers, their host and
-- their network did
abbrev pub RunningWorldsStay : Type 0
RunningWorldsStay =
    (text : List ℕ) (f : Flat) (scene : SceneView) (routes : List Route)
    (mark : List ℕ) (net : Network Scripted)
    → IsOpened text f scene routes → RunsAll scene → Reached (cascade mark scene routes) net
    → (viewer : ℕ) (held : Scripted) (window : List (Option StampedView))
    → IsRunning net viewer held window → Stays scene routes held.world.fields
