-- The scene of what is written of a world that was reached is the scene, with what its nodes keep.
use Rattle.std.proofs.Common.{◌≡◌, ℕ, ◌^◌, ◌≤◌, List, length, Option, Some, None, slice_get, refl, arith}
use Rattle.std.specs.Option.{option_and_then}
use Rattle.x3d_values.specs.declared.fields.Fields.{Fields}
use Rattle.x3d_values.specs.declared.value.Value.{Value}
use Rattle.x3d_values.specs.Kept.{field_value}
use Rattle.classic_text.proofs.Documents.{is_spelled}
use Rattle.proto_flat.specs.declared.flat.Flat.{Flat}
use Rattle.scene_core.specs.declared.scene.Route.{Route}
use Rattle.scene_core.specs.Scene.{SceneView, rows_at, shapes_of}
use Rattle.cascade_core.specs.Apply.{world}
use Rattle.cascade_core.specs.Course.{Scripted}
use Rattle.laws_worlds.specs.Fits.{ScriptedFits}
use Rattle.laws_worlds.specs.Opened.{IsOpened}
use Rattle.laws_worlds.proofs.NetworksWorlds.{few_nodes, worlds_fit}
use Rattle.laws_documents.specs.Named.{SpelledFlatsAreNamed}
use Rattle.laws_written.specs.Writable.{AreKeepable}
use Rattle.laws_written.specs.Kept.{FittingAreKeepable}
use Rattle.laws_written.specs.Scenes.{FieldsAreDistinct}
use Rattle.laws_written.specs.Again.{WrittenScenesAreAgain}
use Rattle.laws_written.specs.Begins.{KeptAgain, kept_of}
use Rattle.laws_written.specs.Sound.{AreSound, DocumentScenesAreSound}
use Rattle.laws_written.specs.WorldsAgain.{IsAgain, IsKeptAgain, RunningWorldsAreAgain, RunningWorldsAreKeptAgain, WorldsAreKeptAgain, WrittenWorldsAreAgain}
use Rattle.laws_written.proofs.TypedFitting.{IsHeld, fitting_held, fitting_typed}
use Rattle.laws_written.proofs.Held.{running_fits}
use Rattle.laws_written.proofs.Lines.{but_lines}

module _ (named : SpelledFlatsAreNamed) (keepable : FittingAreKeepable) (distinct : FieldsAreDistinct) (sound : DocumentScenesAreSound) (again : WrittenScenesAreAgain) where
  module _ (text : List ℕ) (f : Flat) (scene : SceneView) (routes : List Route) (o : IsOpened text f scene routes) where
    few : length scene.nodes ≤ 2 ^ 64
    few = omega (arith, few_nodes text f scene routes o)

    fitting_again : (w : Scripted) → ScriptedFits scene w → IsAgain scene routes w
    fitting_again w fits flat_again next is_flat is_next =
        let kept : AreKeepable w.world.fields = keepable (shapes_of scene) w.world fits.world in
        let names = named text o.document f (but_lines text o.document (is_spelled text o.document o.read)) o.put_in in
        let given : AreSound scene = sound f scene names o.is_scene in
        again f scene routes w.world.fields flat_again next o.is_scene few kept (fitting_typed scene w.world fits.world) given
        (distinct o.document f scene o.put_in o.is_scene) is_flat is_next

  pub worlds_again : WrittenWorldsAreAgain
  worlds_again text f scene routes inputs o run i =
      fitting_again text f scene routes o (world scene routes inputs) (worlds_fit text f scene routes inputs o run i)

  pub running_again : RunningWorldsAreAgain
  running_again text f scene routes mark net o run reached viewer held window r =
      fitting_again text f scene routes o held (running_fits text f scene routes mark net o run reached viewer held window r)

-- ---- what was kept is kept again

held_in : (scene : SceneView) (w : Scripted) → ScriptedFits scene w → (n field : ℕ) (v : Value) → kept_of w.world.fields n field ≡ Some v → IsHeld (rows_at scene n) field v
held_in scene w fits n field v held = by_node (slice_get w.world.fields n) refl held where
  by_node : (o : Option Fields) → slice_get w.world.fields n ≡ o → option_and_then (λ (fields : Fields). field_value fields field) o ≡ Some v → IsHeld (rows_at scene n) field v
  by_node None at h = absurd cc
  by_node (Some fields) at h = fitting_held scene w.world fits.world n field fields v at h

kept_by : KeptAgain → (scene : SceneView) (routes : List Route) (w : Scripted) → ScriptedFits scene w → IsAgain scene routes w → IsKeptAgain scene routes w
kept_by law scene routes w fits again flat_again next is_flat is_next n field v held =
    let r : IsHeld (rows_at scene n) field v = held_in scene w fits n field v held in
    law scene routes w.world.fields next (again flat_again next is_flat is_next) n field r.0 v r.1 r.3 held

pub worlds_kept : KeptAgain → WrittenWorldsAreAgain → WorldsAreKeptAgain
worlds_kept law again text f scene routes inputs o run i =
    kept_by law scene routes (world scene routes inputs) (worlds_fit text f scene routes inputs o run i) (again text f scene routes inputs o run i)

pub running_kept : KeptAgain → RunningWorldsAreAgain → RunningWorldsAreKeptAgain
running_kept law again text f scene routes mark net o run reached viewer held window r =
    kept_by law scene routes held (running_fits text f scene routes mark net o run reached viewer held window r) (again text f scene routes mark net o run reached viewer held window r)
