-- A written scene is read again (ISO/IEC 19776-2, grammar).
use Rattle.std.specs.Prelude.{◌≡◌, ◌-◌, ◌≤◌, ◌^◌, ℕ, Bool, true, false, not, List, length, slice_index_or, Ok}
use Rattle.std.specs.List.{list_all}
use Rattle.x3d_values.specs.declared.fields.Fields.{Fields}
use Rattle.x3d_values.specs.Ranges.{max_depth}
use Rattle.classic_tree.specs.declared.tree.Document.{Document}
use Rattle.classic_text.specs.Spells.{SpellsButLines}
use Rattle.classic_round_trip.specs.AnyLength.{SpellsAtAnyLength}
use Rattle.proto_flat.specs.declared.flat.Flat.{Flat}
use Rattle.proto_meaning.specs.Flat.{flat}
use Rattle.scene_core.specs.declared.scene.Route.{Route}
use Rattle.scene_core.specs.Building.{scene_of}
use Rattle.scene_core.specs.Deep.{deeper_than}
use Rattle.scene_core.specs.Scene.{SceneView}
use Rattle.route_core.specs.Resolved.{resolved}
use Rattle.scene_text.specs.SceneText.{scene_text}
use Rattle.scene_text.specs.Statements.{scene_document}
use Rattle.laws_documents.specs.Named.{IsNamed}
use Rattle.laws_written.specs.Writable.{AreKeepable, IsWritable}

-- the text of a writable scene spells the document that the scene is written as, apart from line
-- numbers and the limit of 16 MiB
abbrev pub WrittenScenesSpell : Type 0
WrittenScenesSpell =
    (s : SceneView) (routes : List Route) (state : List Fields) → IsWritable s routes state
    → SpellsAtAnyLength (scene_text s routes state) (scene_document s routes state)

-- a Switch has room above the helpers: no chain that begins at a helper is of the maximum length
abbrev pub has_room : SceneView → Bool
has_room s =
    list_all (λ n. not (slice_index_or (deeper_than s.nodes (max_depth - 1)) n false)) s.helpers

-- the scene of a document is writable, with the document's routes, if the document's names are
-- names and its texts are UTF-8
abbrev pub ScenesAreWritable : Type 0
ScenesAreWritable =
    (flat : Flat) (scene : SceneView) (routes : List Route) (state : List Fields)
    → IsNamed flat → scene_of flat ≡ Ok scene → length scene.nodes ≤ 2 ^ 64
    → resolved flat scene ≡ Ok routes → AreKeepable state → has_room scene ≡ true
    → IsWritable scene routes state

-- the scene of a document that some text spells, apart from line numbers, is written as a text that
-- is read again, with the document's routes and what the scene's nodes keep
abbrev pub DocumentScenesSpell : Type 0
DocumentScenesSpell =
    (text : List ℕ) (d : Document) (expanded : Flat) (scene : SceneView) (routes : List Route)
    (state : List Fields) → SpellsButLines text d → flat d ≡ Ok expanded
    → scene_of expanded ≡ Ok scene → length scene.nodes ≤ 2 ^ 64
    → resolved expanded scene ≡ Ok routes → AreKeepable state → has_room scene ≡ true
    → SpellsAtAnyLength (scene_text scene routes state) (scene_document scene routes state)
