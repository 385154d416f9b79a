-- The text of the scene of a world that was reached spells the document that it is written as.
use Rattle.std.proofs.Common.{◌≡◌, ℕ, ◌^◌, ◌≤◌, true, List, length, sym, subst, arith}
use Rattle.classic_text.proofs.Documents.{is_spelled}
use Rattle.classic_round_trip.proofs.Spelled.{spellable}
use Rattle.proto_flat.specs.declared.flat.Flat.{Flat}
use Rattle.scene_core.specs.declared.scene.Route.{Route}
use Rattle.scene_core.specs.Scene.{SceneView, shapes_of}
use Rattle.cascade_core.specs.Apply.{world}
use Rattle.cascade_core.specs.Texts.{scene_text}
use Rattle.laws_worlds.specs.Nodes.{RunsAll}
use Rattle.cascade_core.specs.Course.{Scripted}
use Rattle.share_law.specs.Cascade.{cascade}
use Rattle.share_law.specs.Network.{Network}
use Rattle.share_law.specs.Reached.{Reached}
use Rattle.share_law.specs.Viewer.{ViewerWorld}
use Rattle.share_law.proofs.Agreement.{Sound-reached}
use Rattle.share_law.proofs.Machines.{cascade-is}
use Rattle.share_law.proofs.Sound.{InStep, IsAt, Sound, ViewSound}
use Rattle.laws_worlds.specs.Fits.{ScriptedFits}
use Rattle.laws_worlds.proofs.DocumentWorlds.{all_worlds_fit}
use Rattle.laws_worlds.proofs.Saved.{front_inputs}
use Rattle.laws_worlds.specs.Opened.{IsOpened}
use Rattle.laws_worlds.proofs.Countable.{is_document}
use Rattle.laws_worlds.proofs.NetworksWorlds.{few_nodes, worlds_fit}
use Rattle.laws_written.specs.WrittenTexts.{has_room}
use Rattle.laws_written.proofs.Documents.{spellable_scenes_spell}
use Rattle.laws_written.specs.WrittenWorlds.{IsReadAgain, RunningWorldsSpell, WrittenWorldsSpell}
use Rattle.laws_written.proofs.Keepable.{fitting_are_keepable}

module _ (text : List ℕ) (f : Flat) (scene : SceneView) (routes : List Route) (o : IsOpened text f scene routes) (run : RunsAll scene) (room : has_room scene ≡ true) where
  few : length scene.nodes ≤ 2 ^ 64
  few = omega (arith, few_nodes text f scene routes o)

  fitting_spell : (w : Scripted) → ScriptedFits scene w → IsReadAgain scene routes w
  unfolding scene_text
  fitting_spell w fits =
      spellable_scenes_spell o.document f scene routes w.world.fields
      (spellable ◌≡◌ text o.document (is_spelled text o.document o.read)) o.put_in o.is_scene few o.are_routes
      (fitting_are_keepable (shapes_of scene) w.world fits.world) room

  at_spells : (mark : List ℕ) (net : Network Scripted) → Reached (cascade mark scene routes) net → (w : Scripted)
      → IsAt (cascade mark scene routes) net.host.list w → IsReadAgain scene routes w
  at_spells mark net reached w a =
      let d = is_document text f scene routes o in
      let fits : ScriptedFits scene (world scene routes a.done) =
      all_worlds_fit f scene routes a.done d run (front_inputs f scene routes mark net d run reached a.done a.todo a.whole) in
      subst (λ (v : Scripted). IsReadAgain scene routes v) (sym a.is) (fitting_spell (world scene routes a.done) fits)

pub written_worlds_spell : WrittenWorldsSpell
written_worlds_spell text f scene routes inputs o run room i =
    fitting_spell text f scene routes o run room (world scene routes inputs) (worlds_fit text f scene routes inputs o run i)

pub running_worlds_spell : RunningWorldsSpell
running_worlds_spell text f scene routes mark net o run room reached viewer held window r =
    let sound : Sound (cascade mark scene routes) net = Sound-reached (cascade-is mark scene routes) reached in
    let step : InStep (cascade mark scene routes) net.host.list held window =
    subst (λ (v : ViewerWorld Scripted). ViewSound (cascade mark scene routes) net.host.list v) r.view (sound.viewers viewer r.seat r.is) in
    at_spells text f scene routes o run room mark net reached held step.at
