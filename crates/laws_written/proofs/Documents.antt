-- The scene of a document that some text spells is written as a text that is read again.
use Rattle.std.proofs.Common.{◌≡◌, ◌≤◌, ◌^◌, true, List, length, Ok}
use Rattle.x3d_values.specs.declared.fields.Fields.{Fields}
use Rattle.classic_tree.specs.declared.tree.Document.{Document}
use Rattle.classic_round_trip.proofs.Routes.{Any as AnyLine}
use Rattle.classic_round_trip.proofs.Spelled.{spellable}
use Rattle.classic_round_trip.specs.AnyLength.{SpellsAtAnyLength}
use Rattle.classic_round_trip.specs.Spellable.{IsSpellable}
use Rattle.proto_flat.specs.declared.flat.Flat.{Flat}
use Rattle.proto_meaning.specs.Flat.{flat}
use Rattle.route_core.specs.Resolved.{resolved}
use Rattle.scene_core.specs.declared.scene.Route.{Route}
use Rattle.scene_core.specs.Building.{scene_of}
use Rattle.scene_core.specs.Scene.{SceneView}
use Rattle.scene_text.specs.SceneText.{scene_text}
use Rattle.scene_text.specs.Statements.{scene_document}
use Rattle.laws_documents.proofs.Named.{spellable_flats_are_named}
use Rattle.laws_written.specs.Writable.{AreKeepable}
use Rattle.laws_written.specs.WrittenTexts.{DocumentScenesSpell, has_room}
use Rattle.laws_written.proofs.Scenes.{scenes_are_writable}
use Rattle.laws_written.proofs.Written.{written_scenes_spell}

-- the same of a document that is spellable
pub spellable_scenes_spell : (d : Document) (f : Flat) (scene : SceneView) (routes : List Route) (state : List Fields)
    → IsSpellable d → flat d ≡ Ok f → scene_of f ≡ Ok scene → length scene.nodes ≤ 2 ^ 64 → resolved f scene ≡ Ok routes
    → AreKeepable state → has_room scene ≡ true → SpellsAtAnyLength (scene_text scene routes state) (scene_document scene routes state)
spellable_scenes_spell d f scene routes state h e i few j kept room =
    written_scenes_spell scene routes state (scenes_are_writable f scene routes state (spellable_flats_are_named d f h e) i few j kept room)

pub document_scenes_spell : DocumentScenesSpell
document_scenes_spell text d f scene routes state h e i few j kept room =
    spellable_scenes_spell d f scene routes state (spellable AnyLine text d h) e i few j kept room
