-- Every world that a document comes to fits.
use Rattle.std.proofs.Common.{◌≡◌, ℕ, ◌+◌, ℤ, true, ◌&&◌, List, [], ◌∷◌, sym, subst, ◌∙◌, arith}
use Rattle.std.specs.List.{list_all}
use Rattle.std.proofs.lemmas.List.{length-map}
use Rattle.byte_codec.proofs.Laws.{both}
use Rattle.x3d_values.specs.Ranges.{is_input_number, is_input_time}
use Rattle.x3d_values.specs.Stamp.{StampedView}
use Rattle.proto_flat.specs.declared.flat.Flat.{Flat}
use Rattle.scene_core.specs.declared.scene.Route.{Route}
use Rattle.scene_core.specs.Scene.{SceneView, shape_of}
use Rattle.laws_worlds.specs.Nodes.{RunsAll}
use Rattle.cascade_core.specs.Course.{Scripted}
use Rattle.cascade_world.specs.declared.world.WorldData.{WorldData}
use Rattle.cascade_core.specs.Apply.{apply, opening, world, world_after}
use Rattle.cascade_core.specs.InOrder.{Follow}
use Rattle.cascade_core.proofs.Turns.{apply-at, opening-at}
use Rattle.laws_worlds.specs.Fits.{IsNext, IsStaged, ScriptedFits, is_event}
use Rattle.laws_worlds.proofs.Snapshots.{fitting_have}
use Rattle.laws_worlds.proofs.Steps.{all_openings_fit as opened_fit, all_steps_fit}
use Rattle.laws_worlds.specs.Worlds.{IsDocument, WorldsFit, WorldsHaveSnapshots, is_input}
use Rattle.laws_worlds.proofs.Counted.{scene_few}
use Rattle.laws_worlds.proofs.Openings.{all_openings_fit, all_starts_fit}
use Rattle.laws_worlds.proofs.Routes.{all_routes_join}

next_of : (w : WorldData) (s : StampedView) → s.number ≡ w.applied + 1 → is_input s ≡ true → IsNext w s
next_of w s number i =
    let a = both (is_input_number s.number) (is_input_time s.time && is_event s.cause) i in
    let b = both (is_input_time s.time) (is_event s.cause) a.1 in
    record { next = number; number = a.0; time = b.0; cause = b.1 }

module _ (scene : SceneView) (routes : List Route) (staged : IsStaged scene routes) where
  after_fits : (inputs : List StampedView) (w : Scripted) → Follow w.world.applied w.world.last_time inputs → list_all is_input inputs ≡ true → ScriptedFits scene w → ScriptedFits scene (world_after scene routes w inputs)
  after_fits [] w f i p = p
  after_fits (s ∷ inputs) w f i p =
      let b = both (is_input s) (list_all is_input inputs) i in
      let at = apply-at scene routes w s in
      after_fits inputs (apply scene routes w s)
      (subst (λ (n : ℕ). Follow n (apply scene routes w s).world.last_time inputs) (f.0 ∙ sym at.0)
      (subst (λ (t : ℤ). Follow s.number t inputs) (sym at.1) f.2))
      b.1 (all_steps_fit scene routes w s staged (next_of w.world s f.0 b.0) p)

pub is_staged : (flat : Flat) (scene : SceneView) (routes : List Route) → IsDocument flat scene routes → RunsAll scene → IsStaged scene routes
is_staged flat scene routes d run = record {
  few = omega (arith, length-map scene.nodes shape_of, scene_few flat scene d.is_scene, d.numbered);
  joined = all_routes_join flat scene routes d.are_routes;
  run = run;
}

pub all_worlds_fit : WorldsFit
all_worlds_fit flat scene routes inputs d run i =
    let staged = is_staged flat scene routes d run in
    let at = opening-at scene routes in
    after_fits scene routes staged inputs (opening scene routes)
    (subst (λ (n : ℕ). Follow n (opening scene routes).world.last_time inputs) (sym at.0)
    (subst (λ (t : ℤ). Follow 0 t inputs) (sym at.1) i.in_order))
    i.in_range
    (opened_fit scene routes staged (all_openings_fit flat scene d.is_scene d.countable) (all_starts_fit flat scene d.is_scene run))

pub all_have_snapshots : WorldsHaveSnapshots
all_have_snapshots flat scene routes inputs d run i few = fitting_have scene (world scene routes inputs) few (all_worlds_fit flat scene routes inputs d run i)
