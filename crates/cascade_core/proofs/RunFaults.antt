-- What a run comes to, and why it stops.
use Rattle.std.proofs.Common.{◌≡◌, ◌⊎◌, inl, inr, List, Some, None, ◌∙◌, ap, subst, sym}
use Rattle.x3d_values.specs.Stamp.{StampedView}
use Rattle.scene_core.specs.declared.scene.Route.{Route}
use Rattle.scene_core.specs.Scene.{SceneView}
use Rattle.cascade_core.specs.Apply.{opening, world}
use Rattle.cascade_core.specs.Held.{Running, StageView, after_all, refusal_in}
use Rattle.cascade_core.specs.InOrder.{AreInOrder, Follow}
use Rattle.cascade_core.specs.declared.fault.ApplyFault.{ApplyFault}
use Rattle.cascade_core.specs.declared.fault.ApplyFault.TheVariants.{Memory}
use Rattle.cascade_core.proofs.Runs.{after_all_running}
use Rattle.cascade_core.proofs.Turns.{follows_taken, opening-at}

-- a stage behind input 0
abbrev pub loaded : SceneView → List Route → StageView
loaded scene routes = record { scene = scene; routes = routes; held = Running (opening scene routes) }

abbrev pub Stops : StageView → List StampedView → ApplyFault → Type 0
Stops stage inputs fault = (fault ≡ Memory) ⊎ (refusal_in stage inputs ≡ Some fault)

none-refused : (scene : SceneView) (routes : List Route) (inputs : List StampedView) → AreInOrder inputs → refusal_in (loaded scene routes) inputs ≡ None
none-refused scene routes inputs follow =
    let at = opening-at scene routes in
    follows_taken scene routes (opening scene routes) inputs
    (subst (λ n. Follow n (opening scene routes).world.last_time inputs) (sym at.0) (subst (λ t. Follow 0 t inputs) (sym at.1) follow))

module _ (fault : ApplyFault) (stage : StageView) (scene : SceneView) (routes : List Route) (inputs : List StampedView)
    (same : stage ≡ loaded scene routes) (stops : Stops stage inputs fault) where
  pub stopped : Stops (loaded scene routes) inputs fault
  stopped = subst (λ (s : StageView). Stops s inputs fault) same stops

  memory-alone : AreInOrder inputs → Stops (loaded scene routes) inputs fault → fault ≡ Memory
  memory-alone follow (inl memory) = memory
  memory-alone follow (inr refused) = let none : None ≡ Some fault = sym (none-refused scene routes inputs follow) ∙ refused in cc

  pub stopped_in_order : AreInOrder inputs → fault ≡ Memory
  stopped_in_order follow = memory-alone follow stopped

module _ (stage : StageView) (scene : SceneView) (routes : List Route) (inputs : List StampedView) (same : stage ≡ loaded scene routes) where
  pub ran : (after : StageView) → after ≡ after_all stage inputs → after ≡ record { scene = scene; routes = routes; held = Running (world scene routes inputs) }
  ran after is = is ∙ ap (λ (s : StageView). after_all s inputs) same ∙ after_all_running scene routes (opening scene routes) inputs

  pub all-taken : refusal_in stage inputs ≡ None → refusal_in (loaded scene routes) inputs ≡ None
  all-taken none = subst (λ (s : StageView). refusal_in s inputs ≡ None) same none
