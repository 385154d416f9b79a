-- The worlds that running viewers hold fit, so that what their nodes keep is of their fields' types.
use Rattle.std.proofs.Common.{ℕ, List, Option, sym, subst}
use Rattle.x3d_values.specs.Stamp.{StampedView}
use Rattle.proto_flat.specs.declared.flat.Flat.{Flat}
use Rattle.scene_core.specs.declared.scene.Route.{Route}
use Rattle.scene_core.specs.Scene.{SceneView}
use Rattle.cascade_core.specs.Apply.{world}
use Rattle.laws_worlds.specs.Nodes.{RunsAll}
use Rattle.cascade_core.specs.Course.{Scripted}
use Rattle.share_law.specs.Cascade.{cascade}
use Rattle.share_law.specs.Network.{Network}
use Rattle.share_law.specs.Reached.{IsRunning, Reached}
use Rattle.share_law.specs.Viewer.{ViewerWorld}
use Rattle.share_law.proofs.Agreement.{Sound-reached}
use Rattle.share_law.proofs.Machines.{cascade-is}
use Rattle.share_law.proofs.Sound.{InStep, IsAt, Sound, ViewSound}
use Rattle.laws_worlds.specs.Fits.{ScriptedFits}
use Rattle.laws_worlds.proofs.DocumentWorlds.{all_worlds_fit}
use Rattle.laws_worlds.proofs.Saved.{front_inputs}
use Rattle.laws_worlds.specs.Opened.{IsOpened}
use Rattle.laws_worlds.proofs.Countable.{is_document}
use Rattle.laws_worlds.proofs.NetworksWorlds.{worlds_fit}
use Rattle.laws_written.specs.Typed.{RunningWorldsAreOfType, WorldsAreOfType}
use Rattle.laws_written.proofs.TypedFitting.{fitting_typed}

module _ (text : List ℕ) (f : Flat) (scene : SceneView) (routes : List Route) (mark : List ℕ) (net : Network Scripted) (o : IsOpened text f scene routes) (run : RunsAll scene) (reached : Reached (cascade mark scene routes) net) where
  at_fits : (w : Scripted) → IsAt (cascade mark scene routes) net.host.list w → ScriptedFits scene w
  at_fits w a =
      let d = is_document text f scene routes o in
      let fits : ScriptedFits scene (world scene routes a.done) =
      all_worlds_fit f scene routes a.done d run (front_inputs f scene routes mark net d run reached a.done a.todo a.whole) in
      subst (λ (v : Scripted). ScriptedFits scene v) (sym a.is) fits

  pub running_fits : (viewer : ℕ) (held : Scripted) (window : List (Option StampedView)) → IsRunning net viewer held window → ScriptedFits scene held
  running_fits viewer held window r =
      let sound : Sound (cascade mark scene routes) net = Sound-reached (cascade-is mark scene routes) reached in
      let step : InStep (cascade mark scene routes) net.host.list held window =
      subst (λ (v : ViewerWorld Scripted). ViewSound (cascade mark scene routes) net.host.list v) r.view (sound.viewers viewer r.seat r.is) in
      at_fits held step.at

pub worlds_typed : WorldsAreOfType
worlds_typed text f scene routes inputs o run i =
    fitting_typed scene (world scene routes inputs).world (worlds_fit text f scene routes inputs o run i).world

pub running_typed : RunningWorldsAreOfType
running_typed text f scene routes mark net o run reached viewer held window r =
    fitting_typed scene held.world (running_fits text f scene routes mark net o run reached viewer held window r).world
