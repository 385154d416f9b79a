-- The worlds of a network are those of inputs in turn.
use Rattle.std.proofs.Common.{◌≡◌, ℕ, suc, ◌+◌, ◌^◌, ◌<◌, ℤ, pos, true, ◌&&◌, List, [], ◌∷◌, ◌++◌, length, Option, Some, refl, sym, subst, arith}
use Rattle.std.specs.Prelude.{slice_get}
use Rattle.std.specs.List.{list_all}
use Rattle.byte_codec.proofs.Laws.{both, and_true}
use Rattle.x3d_values.specs.declared.stamped.Cause.{Cause}
use Rattle.x3d_values.specs.declared.stamped.Cause.TheVariants.{Clock, Pointer}
use Rattle.x3d_values.specs.Pointing.{is_ray}
use Rattle.x3d_values.specs.Ranges.{is_viewer, is_input_number, is_input_time}
use Rattle.x3d_values.specs.Stamp.{StampedView}
use Rattle.proto_flat.specs.declared.flat.Flat.{Flat}
use Rattle.scene_core.specs.declared.scene.Route.{Route}
use Rattle.scene_core.specs.Scene.{SceneView}
use Rattle.laws_worlds.specs.Nodes.{RunsAll}
use Rattle.cascade_core.specs.Course.{Scripted}
use Rattle.cascade_core.specs.InOrder.{Follow}
use Rattle.snapshot_core.specs.Loading.{HasSnapshot}
use Rattle.share_wire.specs.Datagram.{stamp_fits, cause_fits}
use Rattle.share_law.specs.Cascade.{cascade}
use Rattle.share_law.specs.Lists.{Rises}
use Rattle.share_law.specs.Network.{Network}
use Rattle.share_law.specs.Reached.{Reached, IsRunning}
use Rattle.share_law.specs.Viewer.{ViewerWorld, Shot}
use Rattle.share_law.proofs.Agreement.{Sound-reached}
use Rattle.share_law.proofs.Elements.{slice_get_left}
use Rattle.share_law.proofs.Machines.{cascade-is}
use Rattle.share_law.proofs.Ranges.{InRange, both-reached}
use Rattle.share_law.proofs.Sound.{IsAt, InStep, Sound, ViewSound}
use Rattle.laws_worlds.specs.Fits.{is_event}
use Rattle.laws_worlds.specs.Worlds.{IsDocument, AreInputs, is_input}
use Rattle.laws_worlds.proofs.DocumentWorlds.{all_have_snapshots}

-- ---- inputs

event_of : (e : Cause) → cause_fits e ≡ true → is_event e ≡ true
event_of Clock h = refl
event_of (Pointer p) h = (both (is_viewer p.who) (is_ray p.ray) h).0

input_of : (s : StampedView) → stamp_fits s ≡ true → is_input s ≡ true
input_of s h =
    let a = both (is_input_number s.number && is_input_time s.time) (cause_fits s.cause) h in
    let b = both (is_input_number s.number) (is_input_time s.time) a.0 in
    and_true _ _ b.0 (and_true _ _ b.1 (event_of s.cause a.1))

all_inputs : (xs : List StampedView) → ((k : ℕ) (x : StampedView) → slice_get xs k ≡ Some x → stamp_fits x ≡ true) → list_all is_input xs ≡ true
all_inputs [] h = refl
all_inputs (x ∷ xs) h = and_true _ _ (input_of x (h 0 x refl)) (all_inputs xs (λ k y at. h (suc k) y at))

rises_front : (t : ℤ) (xs ys : List StampedView) → Rises t (xs ++ ys) → Rises t xs
rises_front t [] ys h = tt
rises_front t (x ∷ xs) ys h = (h.0, rises_front x.time xs ys h.1)

abbrev Numbered : ℕ → List StampedView → Type 0
Numbered n xs = (k : ℕ) (x : StampedView) → slice_get xs k ≡ Some x → x.number ≡ suc (n + k)

first_number : (n : ℕ) (x : StampedView) → x.number ≡ suc (n + 0) → x.number ≡ n + 1
first_number n x e = omega (arith, e)

later_number : (n k : ℕ) (x y : StampedView) → x.number ≡ n + 1 → y.number ≡ suc (n + suc k) → y.number ≡ suc (x.number + k)
later_number n k x y e f = omega (arith, e, f)

follow : (n : ℕ) (t : ℤ) (xs : List StampedView) → Numbered n xs → Rises t xs → Follow n t xs
follow n t [] h r = tt
follow n t (x ∷ xs) h r =
    let e = first_number n x (h 0 x refl) in
    (e, r.0, follow x.number x.time xs (λ k y at. later_number n k x y e (h (suc k) y at)) r.1)

from_one : (k : ℕ) (x : StampedView) → x.number ≡ suc k → x.number ≡ suc (0 + k)
from_one k x e = omega (arith, e)

-- ---- worlds

module _ (flat : Flat) (scene : SceneView) (routes : List Route) (mark : List ℕ) (net : Network Scripted) (d : IsDocument flat scene routes) (run : RunsAll scene) (reached : Reached (cascade mark scene routes) net) where
  pub front_inputs : (front back : List StampedView) → front ++ back ≡ net.host.list → AreInputs front
  front_inputs front back whole =
      let sound : Sound (cascade mark scene routes) net = Sound-reached (cascade-is mark scene routes) reached in
      let ranges : InRange net = (both-reached (cascade mark scene routes) net reached).0 in
      let there : (k : ℕ) (x : StampedView) → slice_get front k ≡ Some x → slice_get net.host.list k ≡ Some x =
      λ k x at. subst (λ (l : List StampedView). slice_get l k ≡ Some x) whole (slice_get_left front back k x at) in
      record {
        in_order = follow 0 (pos 0) front (λ k x at. from_one k x (sound.numbers k x (there k x at)))
            (rises_front (pos 0) front back (subst (λ (l : List StampedView). Rises (pos 0) l) (sym whole) sound.times));
        in_range = all_inputs front (λ k x at. ranges.list k x (there k x at));
      }

  at_has : (w : Scripted) → IsAt (cascade mark scene routes) net.host.list w → length w.world.trace < 2 ^ 64 → HasSnapshot scene w
  at_has w a =
      subst (λ (v : Scripted). length v.world.trace < 2 ^ 64 → HasSnapshot scene v) (sym a.is)
      (all_have_snapshots flat scene routes a.done d run (front_inputs a.done a.todo a.whole))

  pub saved_have : (s : ℕ) (shot : Shot Scripted) → slice_get net.shots s ≡ Some shot → length shot.state.world.trace < 2 ^ 64 → HasSnapshot scene shot.state
  saved_have s shot at few =
      let sound : Sound (cascade mark scene routes) net = Sound-reached (cascade-is mark scene routes) reached in
      at_has shot.state (sound.shots s shot at) few

  pub running_have : (viewer : ℕ) (held : Scripted) (window : List (Option StampedView)) → IsRunning net viewer held window → length held.world.trace < 2 ^ 64 → HasSnapshot scene held
  running_have viewer held window r few =
      let sound : Sound (cascade mark scene routes) net = Sound-reached (cascade-is mark scene routes) reached in
      let step : InStep (cascade mark scene routes) net.host.list held window = subst (λ (v : ViewerWorld Scripted). ViewSound (cascade mark scene routes) net.host.list v) r.view (sound.viewers viewer r.seat r.is) in
      at_has held step.at few
