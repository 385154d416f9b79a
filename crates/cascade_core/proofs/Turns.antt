-- After an input a world has one input more, and the input's time; so it takes inputs that follow in turn.
use Rattle.std.proofs.Common.{rules, ◌≡◌, ℕ, ℤ, ◌+◌, ◌<ℤ◌, pos, List, [], ◌∷◌, None, refl, sym, ◌∙◌, subst}
use Rattle.x3d_values.specs.Stamp.{StampedView}
use Rattle.scene_core.specs.declared.scene.Route.{Route}
use Rattle.scene_core.specs.Scene.{SceneView}
use Rattle.cascade_core.specs.Apply.{apply, begun, opening, opening_course, started}
use Rattle.cascade_core.specs.Course.{CourseView, Wiring, Scripted, wiring_of}
use Rattle.cascade_core.specs.Scripts.{scripts_in}
use Rattle.cascade_core.specs.Held.{Running, refusal_in, world_refusal}
use Rattle.cascade_core.specs.InOrder.{Follow}
use Rattle.cascade_core.proofs.Settled.{input-of, sent-of, settle-of}

module _ (number : ℕ) (time : ℤ) where
  -- the world has had this many inputs, the last at this time
  abbrev IsAt : CourseView → Type 0
  IsAt c = (c.live.world.applied ≡ number) × (c.live.world.last_time ≡ time)

pub apply-at : (scene : SceneView) (routes : List Route) (w : Scripted) (input : StampedView) →
    ((apply scene routes w input).world.applied ≡ w.world.applied + 1) × ((apply scene routes w input).world.last_time ≡ input.time)
unfolding apply
apply-at scene routes w input =
    input-of (wiring_of scene routes) (IsAt (w.world.applied + 1) input.time) (λ c s v h p. p) (λ c a p. p) (λ c q p. p) (λ c k call p. p) (λ c k p. p)
    scene (begun scene w input) input (refl, refl)

pub opening-at : (scene : SceneView) (routes : List Route) → ((opening scene routes).world.applied ≡ 0) × ((opening scene routes).world.last_time ≡ pos 0)
unfolding opening
opening-at scene routes =
    let wiring : Wiring = wiring_of scene routes in
    let s = started wiring (scripts_in scene) in
    let c : CourseView = opening_course scene s.scripts in
    settle-of wiring (IsAt 0 (pos 0)) (λ c s v h p. p) (λ c a p. p) (λ c q p. p) (λ c k call p. p) (λ c k p. p) _
    (sent-of wiring (IsAt 0 (pos 0)) (λ c s v h p. p) (λ c a p. p) (λ c q p. p) (λ c k call p. p) (λ c k p. p) c s.sendings (refl, refl))

taken : (w : Scripted) (input : StampedView) → input.number ≡ w.world.applied + 1 → w.world.last_time <ℤ input.time → world_refusal w.world input ≡ None
taken w input number later = search rules

-- what follows the last input of a world is taken, one after another
pub follows_taken : (scene : SceneView) (routes : List Route) (w : Scripted) (inputs : List StampedView) →
    Follow w.world.applied w.world.last_time inputs → refusal_in (record { scene = scene; routes = routes; held = Running w }) inputs ≡ None
follows_taken scene routes w [] follow = refl
follows_taken scene routes w (input ∷ inputs) follow =
    let at = apply-at scene routes w input in
    rw (taken w input follow.0 follow.1)
    (follows_taken scene routes (apply scene routes w input) inputs
    (subst (λ n. Follow n (apply scene routes w input).world.last_time inputs) (follow.0 ∙ sym at.0)
    (subst (λ t. Follow input.number t inputs) (sym at.1) follow.2)))
