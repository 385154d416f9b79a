-- The kinds of scripts stand in every course, and a world has a state for each.
use Rattle.std.proofs.Common.{◌≡◌, ℕ, List, [], ◌∷◌, ◌∙◌, ap, refl, length}
use Rattle.std.specs.List.{fold, range_with_len}
use Rattle.x3d_values.specs.declared.script.Kind.{Kind}
use Rattle.x3d_values.specs.Stamp.{StampedView}
use Rattle.scene_core.specs.declared.scene.Route.{Route}
use Rattle.scene_core.specs.Scene.{SceneView}
use Rattle.script_host.specs.Behaviour.{Initialize, Settle}
use Rattle.script_host.specs.Hosting.{SlotView}
use Rattle.script_running.specs.Acting.{kinds_of}
use Rattle.script_running.proofs.CallLemmas.{kinds_stand}
use Rattle.cascade_core.specs.Apply.{SendingView, Started, after_input, apply, begun, opening, opening_course, sent_by_all, start_one, started, world_after}
use Rattle.cascade_core.specs.Course.{CourseView, Wiring, Scripted, wiring_of, ports_of}
use Rattle.cascade_core.specs.ScriptLaws.{KindsStand, StatesStand}
use Rattle.cascade_core.specs.Scripts.{kinds_in, scripts_in, states_of}
use Rattle.cascade_core.specs.Settles.{settle}
use Rattle.script_running.proofs.Runnings.{running-kinds, states-many}
use Rattle.cascade_core.proofs.Settled.{input-of, sent-of, settle-of}

module _ (wiring : Wiring) (kinds : List Kind) where
  abbrev Of : CourseView → Type 0
  Of c = kinds_of c.scripts ≡ kinds

  after-of : (scene : SceneView) (c : CourseView) (input : StampedView) → Of c → Of (after_input scene wiring c input)
  after-of scene c input p =
      input-of wiring Of (λ c s v h p. p) (λ c a p. p) (λ c b p. p) (λ c k call p. kinds_stand (ports_of wiring k) call k c.scripts ∙ p)
      (λ c k p. kinds_stand (ports_of wiring k) Settle k c.scripts ∙ p) scene c input p

  settled-of : (c : CourseView) → Of c → Of (settle wiring c)
  settled-of c p =
      settle-of wiring Of (λ c s v h p. p) (λ c a p. p) (λ c b p. p) (λ c k call p. kinds_stand (ports_of wiring k) call k c.scripts ∙ p)
      (λ c k p. kinds_stand (ports_of wiring k) Settle k c.scripts ∙ p) c p

  all-of : (c : CourseView) (sendings : List SendingView) → Of c → Of (sent_by_all wiring c sendings)
  all-of c sendings p =
      sent-of wiring Of (λ c s v h p. p) (λ c a p. p) (λ c b p. p) (λ c k call p. kinds_stand (ports_of wiring k) call k c.scripts ∙ p)
      (λ c k p. kinds_stand (ports_of wiring k) Settle k c.scripts ∙ p) c sendings p

  starts-of : (s : Started) (ks : List ℕ) → kinds_of s.scripts ≡ kinds → kinds_of (fold (start_one wiring) s ks).scripts ≡ kinds
  starts-of s [] p = p
  starts-of s (k ∷ ks) p = starts-of (start_one wiring s k) ks (kinds_stand (ports_of wiring k) Initialize k s.scripts ∙ p)

  pub started-of : (scripts : List SlotView) → kinds_of scripts ≡ kinds → kinds_of (started wiring scripts).scripts ≡ kinds
  unfolding started
  started-of scripts p = starts-of (record { scripts = scripts; sendings = [] }) (range_with_len 0 (length scripts)) p

pub kinds_stand_always : KindsStand
kinds_stand_always scene wiring c input = after-of wiring (kinds_of c.scripts) scene c input refl

-- a world has a state for each script
abbrev IsFull : SceneView → Scripted → Type 0
IsFull scene w = length w.states ≡ length (kinds_in scene)

-- a course whose scripts are of the scene's kinds
full : (scene : SceneView) (scripts : List SlotView) → kinds_of scripts ≡ kinds_in scene → length (states_of scripts) ≡ length (kinds_in scene)
full scene scripts p = states-many scripts ∙ ap length p

opened-full : (scene : SceneView) (routes : List Route) → IsFull scene (opening scene routes)
unfolding opening
opened-full scene routes =
    let wiring : Wiring = wiring_of scene routes in
    let s : Started = started wiring (scripts_in scene) in
    let c : CourseView = sent_by_all wiring (opening_course scene s.scripts) s.sendings in
    full scene (settle wiring c).scripts
    (settled-of wiring (kinds_in scene) c
    (all-of wiring (kinds_in scene) (opening_course scene s.scripts) s.sendings (started-of wiring (kinds_in scene) (scripts_in scene) refl)))

pub applied-full : (scene : SceneView) (routes : List Route) (w : Scripted) (input : StampedView) → IsFull scene w → IsFull scene (apply scene routes w input)
unfolding apply
applied-full scene routes w input p =
    let wiring : Wiring = wiring_of scene routes in
    let c : CourseView = begun scene w input in
    full scene (after_input scene wiring c input).scripts
    (after-of wiring (kinds_in scene) scene c input (running-kinds (kinds_in scene) w.states p))

inputs-full : (scene : SceneView) (routes : List Route) (w : Scripted) (inputs : List StampedView) → IsFull scene w → IsFull scene (world_after scene routes w inputs)
inputs-full scene routes w [] p = p
inputs-full scene routes w (input ∷ inputs) p = inputs-full scene routes (apply scene routes w input) inputs (applied-full scene routes w input p)

pub states_stand_always : StatesStand
states_stand_always scene routes inputs = inputs-full scene routes (opening scene routes) inputs (opened-full scene routes)
