-- An input by its parts: it begins, it happens, and scripts settle.
use Rattle.std.proofs.Common.{◌≡◌, ◌∙◌, true, ℤ, ap, subst, sym, List, []}
use Rattle.x3d_values.specs.declared.script.Kind.{Kind}
use Rattle.x3d_values.specs.declared.stamped.Cause.{Cause}
use Rattle.x3d_values.specs.Stamp.{StampedView}
use Rattle.scene_core.specs.Scene.{SceneView, shapes_of}
use Rattle.scene_core.specs.declared.scene.Route.{Route}
use Rattle.script_running.specs.declared.run.Run.{Run}
use Rattle.script_host.specs.Hosting.{SlotView}
use Rattle.script_running.specs.Acting.{kinds_of}
use Rattle.script_slots.specs.Settling.{all_differ}
use Rattle.cascade_core.specs.Apply.{after_input, apply, begin, begun, happen}
use Rattle.cascade_core.specs.Course.{CourseView, Wiring, Scripted, course, ended, wiring_at, wiring_of}
use Rattle.cascade_core.specs.Scripts.{kinds_in, running, states_of}
use Rattle.cascade_core.specs.Settles.{settle}
use Rattle.cascade_core.specs.Resting.{HasSameScripts}
use Rattle.cascade_core.specs.Sound.{HasScriptsOf, RunsItsScripts}
use Rattle.cascade_core.specs.declared.routed.RoutedScene.{RoutedScene}
use Rattle.cascade_trace.specs.declared.trace.TraceLine.{TraceLine}
use Rattle.cascade_world.specs.declared.world.Live.{Live}
use Rattle.cascade_core.proofs.Gained.{gain-input}
use Rattle.cascade_core.proofs.Gains.{IsGain}
use Rattle.cascade_core.proofs.Keeping.{happen-of}
use Rattle.cascade_core.proofs.SettleLemmas.{settles_all}
use Rattle.cascade_core.proofs.SoundLemmas.{has_scripts-counted}

-- no script was settled before what happened is over
pub happen-fresh : (scene : SceneView) (wiring : Wiring) (now : ℤ) (c : CourseView) (cause : Cause) → c.settling.settled ≡ [] → (happen scene wiring now c cause).settling.settled ≡ []
happen-fresh scene wiring now c cause none =
    happen-of wiring (λ (d : CourseView). d.settling.settled ≡ []) (λ d s v h p. p) (λ d a p. p) (λ d q p. p) (λ d k call p. p) scene now c cause none

-- what a stage goes by is the wiring of its scene
pub plan-same : (g : RoutedScene) → RunsItsScripts g → wiring_at g ≡ wiring_of g.scene g.routes
plan-same g routed = ap made routed
  where
    made : List Run → Wiring
    made runs = record { shapes = shapes_of g.scene; routes = g.routes; runs = runs }

-- a course begins as the definition says
pub begun-same : (scene : SceneView) (old new : CourseView) (input : StampedView) → new ≡ course (begin old.live.world input) old.scripts →
    old.scripts ≡ running (kinds_of old.scripts) (states_of old.scripts) → kinds_of old.scripts ≡ kinds_in scene → new ≡ begun scene (ended old) input
begun-same scene old new input is run kinds =
    is
    ∙ ap (λ (scripts : List SlotView). course (begin old.live.world input) scripts)
    (run ∙ ap (λ (ks : List Kind). running ks (states_of old.scripts)) kinds)

-- it ends as the definition says
pub after-same : (scene : SceneView) (wiring : Wiring) (c d e : CourseView) (input : StampedView) → d ≡ happen scene wiring input.time c input.cause → e ≡ settle wiring d →
    e ≡ after_input scene wiring c input
after-same scene wiring c d e input happened settled = settled ∙ ap (λ (x : CourseView). settle wiring x) happened

-- it settles each script once
pub settled-once : (scene : SceneView) (wiring : Wiring) (c : CourseView) (input : StampedView) → c.settling.settled ≡ [] → all_differ (after_input scene wiring c input).settling.settled ≡ true
settled-once scene wiring c input none =
    (settles_all wiring (happen scene wiring input.time c input.cause) (happen-fresh scene wiring input.time c input.cause none)).1

-- it does so by the wiring of the scene
pub input-same : (scene : SceneView) (wiring real : Wiring) (c b e : CourseView) (input : StampedView) → e ≡ after_input scene wiring c input → wiring ≡ real → c ≡ b →
    e ≡ after_input scene real b input
input-same scene wiring real c b e input is plans courses =
    is ∙ ap (λ (p : Wiring). after_input scene p c input) plans ∙ ap (λ (x : CourseView). after_input scene real x input) courses

-- what the trace gained
pub gained-by : (scene : SceneView) (wiring : Wiring) (start : List TraceLine) (c e : CourseView) (input : StampedView) → c.live.sent ≡ [] → c.live.world.trace ≡ start →
    e ≡ after_input scene wiring c input → IsGain start e.live
gained-by scene wiring start c e input none same is =
    subst (λ (x : CourseView). IsGain start x.live) (sym is)
    (subst (λ (t : List TraceLine). IsGain t (after_input scene wiring c input).live) same (gain-input scene wiring c input none))

-- a course that has begun has the scripts that it had
pub begun-scripts : (wiring : Wiring) (old new : CourseView) (live : Live) → new ≡ course live old.scripts → HasScriptsOf wiring old → HasSameScripts old new
begun-scripts wiring old new live is has_scripts = record {
  kinds = ap (λ (d : CourseView). kinds_of d.scripts) is;
  count = ap (λ (d : CourseView). d.settling.count) is ∙ sym (has_scripts-counted wiring old has_scripts);
}

-- an input that has begun, has happened and after which scripts have settled is the definition's
pub input-done : (g : RoutedScene) (old b d e : CourseView) (input : StampedView) → RunsItsScripts g → b ≡ course (begin old.live.world input) old.scripts →
    old.scripts ≡ running (kinds_of old.scripts) (states_of old.scripts) → kinds_of old.scripts ≡ kinds_in g.scene →
    d ≡ happen g.scene (wiring_at g) input.time b input.cause → e ≡ settle (wiring_at g) d →
    e ≡ after_input g.scene (wiring_of g.scene g.routes) (begun g.scene (ended old) input) input
input-done g old b d e input routed is run kinds happened settled =
    input-same g.scene (wiring_at g) (wiring_of g.scene g.routes) b (begun g.scene (ended old) input) e input
    (after-same g.scene (wiring_at g) b d e input happened settled) (plan-same g routed) (begun-same g.scene old b input is run kinds)

pub input-world : (scene : SceneView) (routes : List Route) (w : Scripted) (e : CourseView) (input : StampedView) →
    e ≡ after_input scene (wiring_of scene routes) (begun scene w input) input → ended e ≡ apply scene routes w input
unfolding apply
input-world scene routes w e input is = ap ended is
