-- What is written of a scene, in a state that fits, is too large, or is read as the scene.
use Rattle.std.proofs.Common.{◌≡◌, ℕ, ◌^◌, ◌≤◌, true, List, length, Result, Ok, Err, refl, arith, inl, inr}
use Rattle.x3d_values.specs.declared.fields.Fields.{Fields}
use Rattle.classic_text.proofs.Documents.{is_spelled}
use Rattle.proto_flat.specs.declared.fault.ExpandFault.{ExpandFault}
use Rattle.proto_flat.specs.declared.flat.Flat.{Flat}
use Rattle.proto_meaning.specs.Flat.{flat}
use Rattle.scene_core.specs.declared.scene.Route.{Route}
use Rattle.scene_core.specs.Building.{scene_of}
use Rattle.scene_core.specs.Scene.{SceneView, shapes_of}
use Rattle.scene_text.specs.Statements.{scene_document}
use Rattle.cascade_core.specs.Apply.{world}
use Rattle.laws_worlds.specs.Fits.{WorldFits}
use Rattle.laws_worlds.specs.Opened.{IsOpened}
use Rattle.laws_worlds.proofs.NetworksWorlds.{few_nodes, worlds_fit}
use Rattle.laws_documents.specs.Named.{IsNamed, SpelledFlatsAreNamed}
use Rattle.laws_written.specs.Writable.{AreKeepable, IsWritable}
use Rattle.laws_written.specs.WrittenTexts.{ScenesAreWritable, WrittenScenesSpell, has_room}
use Rattle.laws_written.specs.Kept.{FittingAreKeepable}
use Rattle.laws_written.specs.Distinct.{HaveDistinctFields}
use Rattle.laws_documents.specs.Sound.{IsFlatOrTooLarge}
use Rattle.laws_written.specs.LimitsWritten.{WrittenScenesAreFlat}
use Rattle.laws_written.specs.Resolved.{WrittenRoutesResolve}
use Rattle.laws_written.specs.Scenes.{FieldsAreDistinct}
use Rattle.laws_written.specs.Again.{IsWrittenOf, WrittenScenesAreAgain}
use Rattle.laws_written.specs.Room.{ScenesAgainHaveRoom}
use Rattle.laws_written.specs.Sound.{AreOfType, AreSound, DocumentScenesAreSound}
use Rattle.laws_written.specs.Exist.{AreInRange, WrittenScenesExist}
use Rattle.laws_written.specs.Typed.{FittingAreOfType}
use Rattle.laws_written.proofs.Held.{running_fits}
use Rattle.laws_written.proofs.Lines.{but_lines}
use Rattle.laws_written.specs.Fitting.{state_fits}
use Rattle.laws_written.specs.Ranged.{FittingAreInRange}
use Rattle.laws_written.specs.Stays.{IsSame, RunningWorldsStay, ScenesStay, Stays, WorldsStay}
use Rattle.laws_written.proofs.StayFitting.{fitting_state, standing, standing_fits}
use Rattle.laws_written.proofs.Kept.{keeps_rows}
use Rattle.laws_written.proofs.SameTrees.{text_same}

-- what crates below prove
pub record Known : Type 0 where
  pub named : SpelledFlatsAreNamed
  pub writable : ScenesAreWritable
  pub spelled : WrittenScenesSpell
  pub keepable : FittingAreKeepable
  pub typed : FittingAreOfType
  pub ranged : FittingAreInRange
  pub distinct : FieldsAreDistinct
  pub sound : DocumentScenesAreSound
  pub flats : WrittenScenesAreFlat
  pub exist : WrittenScenesExist
  pub again : WrittenScenesAreAgain
  pub room : ScenesAgainHaveRoom
  pub resolve : WrittenRoutesResolve

module _ (known : Known) where
  module _ (text : List ℕ) (f : Flat) (scene : SceneView) (routes : List Route) (state : List Fields) (o : IsOpened text f scene routes) (fits : state_fits (shapes_of scene) state ≡ true) where
    few : length scene.nodes ≤ 2 ^ 64
    few = omega (arith, few_nodes text f scene routes o)

    fields_distinct : HaveDistinctFields scene
    fields_distinct = known.distinct o.document f scene o.put_in o.is_scene

    stands : WorldFits (shapes_of scene) (standing (shapes_of scene) state)
    stands = standing_fits (shapes_of scene) state fits

    kept : AreKeepable state
    kept = known.keepable (shapes_of scene) (standing (shapes_of scene) state) stands

    typed : AreOfType scene state
    typed = known.typed scene (standing (shapes_of scene) state) stands

    ranged : AreInRange scene state
    ranged = known.ranged scene (standing (shapes_of scene) state) stands

    names : IsNamed f
    names = known.named text o.document f (but_lines text o.document (is_spelled text o.document o.read)) o.put_in

    given : AreSound scene
    given = known.sound f scene names o.is_scene

    can_write : has_room scene ≡ true → IsWritable scene routes state
    can_write room = known.writable f scene routes state names o.is_scene few o.are_routes kept room

    same_as : (again : Flat) (next : SceneView) → flat (scene_document scene routes state) ≡ Ok again → scene_of again ≡ Ok next → IsSame scene routes state again next
    same_as again next is is_next =
        let same : IsWrittenOf scene routes state next =
        known.again f scene routes state again next o.is_scene few kept typed given fields_distinct is is_next in
        let writable : IsWritable scene routes state = can_write (known.room again scene routes state next is_next same) in
        record {
          is_written = same;
          resolves = known.resolve f scene next routes state again o.is_scene few kept o.are_routes is (keeps_rows scene routes state next same);
          spells = known.spelled scene routes state writable;
          writes = text_same f again scene next routes state o.is_scene is_next same kept writable;
        }

    stays_by : (r : Result Flat ExpandFault) → flat (scene_document scene routes state) ≡ r → IsFlatOrTooLarge r → Stays scene routes state
    stays_by (Err e) is large = inl (record { fault = e; is_fault = is; kind = large })
    stays_by (Ok again) is large =
        inr (record {
          again = again;
          is_flat = is;
          exists = known.exist f scene routes state again o.is_scene few kept typed ranged given fields_distinct is;
          same = λ next is_next. same_as again next is is_next;
        })

  pub scenes_stay : ScenesStay
  scenes_stay text f scene routes state o fits =
      stays_by text f scene routes state o fits (flat (scene_document scene routes state)) refl
      (known.flats f scene routes state o.is_scene (few text f scene routes state o fits) (kept text f scene routes state o fits)
      (fields_distinct text f scene routes state o fits))

-- ---- worlds that were reached

pub worlds_stay : ScenesStay → WorldsStay
worlds_stay law text f scene routes inputs o run i =
    law text f scene routes (world scene routes inputs).world.fields o
    (fitting_state (shapes_of scene) (world scene routes inputs).world (worlds_fit text f scene routes inputs o run i).world)

pub running_stay : ScenesStay → RunningWorldsStay
running_stay law text f scene routes mark net o run reached viewer held window r =
    law text f scene routes held.world.fields o
    (fitting_state (shapes_of scene) held.world (running_fits text f scene routes mark net o run reached viewer held window r).world)
