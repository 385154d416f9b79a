-- The scene of a world is written as a text that is read again (ISO/IEC 19776-2, grammar).
use Rattle.std.specs.Prelude.{◌≡◌, ℕ, true, List, Option}
use Rattle.x3d_values.specs.Stamp.{StampedView}
use Rattle.classic_round_trip.specs.AnyLength.{SpellsAtAnyLength}
use Rattle.proto_flat.specs.declared.flat.Flat.{Flat}
use Rattle.scene_core.specs.declared.scene.Route.{Route}
use Rattle.scene_core.specs.Scene.{SceneView}
use Rattle.scene_text.specs.Statements.{scene_document}
use Rattle.cascade_core.specs.Apply.{world}
use Rattle.cascade_core.specs.Texts.{scene_text}
use Rattle.laws_worlds.specs.Nodes.{RunsAll}
use Rattle.cascade_core.specs.Course.{Scripted}
use Rattle.share_law.specs.Cascade.{cascade}
use Rattle.share_law.specs.Network.{Network}
use Rattle.share_law.specs.Reached.{IsRunning, Reached}
use Rattle.laws_worlds.specs.Worlds.{AreInputs}
use Rattle.laws_worlds.specs.Opened.{IsOpened}
use Rattle.laws_written.specs.WrittenTexts.{has_room}

-- the text of a world's scene spells the document that it is written as, apart from line numbers
-- and the limit of 16 MiB
abbrev pub IsReadAgain : SceneView → List Route → Scripted → Type 0
IsReadAgain scene routes w =
    SpellsAtAnyLength (scene_text scene routes w) (scene_document scene routes w.world.fields)

-- IsReadAgain holds in every world that inputs in turn lead to in the scene of a text, if a Switch
-- has room above the helpers
abbrev pub WrittenWorldsSpell : Type 0
WrittenWorldsSpell =
    (text : List ℕ) (f : Flat) (scene : SceneView) (routes : List Route) (inputs : List StampedView)
    → IsOpened text f scene routes → RunsAll scene → has_room scene ≡ true → AreInputs inputs
    → IsReadAgain scene routes (world scene routes inputs)

-- it holds in the world of every running viewer, whatever 1 to max_viewers viewers, their host and
-- their network did
abbrev pub RunningWorldsSpell : Type 0
RunningWorldsSpell =
    (text : List ℕ) (f : Flat) (scene : SceneView) (routes : List Route)
    (mark : List ℕ) (net : Network Scripted)
    → IsOpened text f scene routes → RunsAll scene → has_room scene ≡ true
    → Reached (cascade mark scene routes) net
    → (viewer : ℕ) (held : Scripted) (window : List (Option StampedView))
    → IsRunning net viewer held window → IsReadAgain scene routes held
