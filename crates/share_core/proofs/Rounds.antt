-- Inputs are applied one after another: each turn of the loop, and how it ends.
use Rattle.std.proofs.Common.{◌≡◌, ℕ, ◌+◌, ◌<◌, Bool, true, false, cond, List, length, ap, sym, subst, inl, inr}
use Rattle.std.specs.Prelude.{◌==◌, Option, Result, Ok, Err}
use Rattle.std.proofs.lemmas.Bool.{false≢true}
use Rattle.x3d_values.specs.Stamp.{StampedView}
use Rattle.share_rules.specs.Window.{window_places}
use Rattle.scene_core.specs.declared.scene.Route.{Route}
use Rattle.scene_core.specs.Scene.{SceneView}
use Rattle.cascade_core.specs.Course.{Scripted}
use Rattle.cascade_core.specs.Held.{Held, Running, is_spoiled}
use Rattle.share_law.specs.declared.fault.TakeFault.{TakeFault}
use Rattle.share_law.specs.declared.reply.Taken.{Taken}
use Rattle.share_law.specs.declared.reply.Taken.TheVariants as taken
use Rattle.share_law.specs.Cascade.{cascade}
use Rattle.share_law.specs.Viewer.{drain}
use Rattle.share_law.proofs.Machines.{cascade-is}
use Rattle.share_core.specs.Ahead.{IsNext, IsDrained}
use Rattle.share_core.proofs.Drains.{Goes, Goes-next, Goes-smaller, drained-gap, drained-late, drained-refused}
use Rattle.share_core.proofs.Nexts.{world_in, running}

module _ (mark : List ℕ) (scene : SceneView) (routes : List Route) (first h new : Held) (ws now rest : List (Option StampedView)) (count : ℕ) where
  -- what was done to the stage at hand, in the terms of the stage at the start
  pub stepped : (s : SceneView) (r : List Route) (result : Result Bool TakeFault) → s ≡ scene → r ≡ routes → is_spoiled h ≡ false
      → ((w : Scripted) → h ≡ Running w → IsNext (cascade mark s r) w now result new rest) → IsNext (cascade mark scene routes) (world_in scene h) now result new rest
  stepped s r result same_scene same_routes runs step =
      subst (λ z. IsNext (cascade mark z routes) (world_in scene h) now result new rest) same_scene
      (subst (λ z. IsNext (cascade mark s z) (world_in scene h) now result new rest) same_routes (step (world_in scene h) (running scene h runs)))

  abbrev pub GoesTo : Held → List (Option StampedView) → ℕ → Type 0
  GoesTo held window n = Goes (cascade mark scene routes) (world_in scene first) ws (world_in scene held) window n

  -- the input was applied
  pub gone_on : (go : Bool) → go ≡ true → length now ≡ window_places → IsNext (cascade mark scene routes) (world_in scene h) now (Ok go) new rest → GoesTo h now count
      → (is_spoiled new ≡ false) × GoesTo new rest (count + 1)
  gone_on false e room step goes = absurd (false≢true e)
  gone_on true e room step goes =
      let w = world_in scene h in
      let more = (cascade-is mark scene routes).applied-apply w step.0 in (
        ap is_spoiled step.3,
        subst (λ (z : Scripted). Goes (cascade mark scene routes) (world_in scene first) ws z rest (count + 1)) (sym (ap (world_in scene) step.3))
            (Goes-next (cascade mark scene routes) (world_in scene first) ws w now rest step.0 count room step.1 more step.2 step.4 goes),
      )

  pub fewer : (go : Bool) → go ≡ true → length now ≡ window_places → IsNext (cascade mark scene routes) (world_in scene h) now (Ok go) new rest → GoesTo h now count
      → (drain (cascade mark scene routes) (world_in scene new) rest).count < (drain (cascade mark scene routes) (world_in scene h) now).count
  fewer go e room step goes = Goes-smaller (cascade mark scene routes) (world_in scene first) ws (world_in scene h) (world_in scene new) now rest count goes (gone_on go e room step goes).1

  -- the next input did not come
  pub ended : (go : Bool) (result : Result Taken TakeFault) → go ≡ false → cond (count == 0) (Ok taken.Held) (Ok (taken.Applied count)) ≡ result → length now ≡ window_places
      → IsNext (cascade mark scene routes) (world_in scene h) now (Ok go) new rest → GoesTo h now count
      → (w : Scripted) → first ≡ Running w → IsDrained (cascade mark scene routes) w ws result new rest
  ended true result e answer room step goes w is = absurd (false≢true (sym e))
  ended false result e answer room step goes w is =
      subst (λ (z : Scripted). IsDrained (cascade mark scene routes) z ws result new rest) (ap (world_in scene) is)
      (subst (λ z. IsDrained (cascade mark scene routes) (world_in scene first) ws z new rest) answer
      (drained-gap (cascade mark scene routes) (world_in scene first) ws (world_in scene h) now rest new count room step.0 step.1 step.2 goes))

  -- it was refused
  pub failed : (fault : TakeFault) → length now ≡ window_places → IsNext (cascade mark scene routes) (world_in scene h) now (Err fault) new rest → GoesTo h now count
      → (w : Scripted) → first ≡ Running w → IsDrained (cascade mark scene routes) w ws (Err fault) new rest
  failed fault room step goes w is =
      let m = cascade mark scene routes in
      let first_world = world_in scene first in
      let w_now = world_in scene h in
      let answer : IsDrained m first_world ws (Err fault) new rest = elim step.2 [
        | inl l ↦ drained-late m first_world ws w_now now rest new count step.0 fault room step.1 l.0 l.1 l.2 l.3 goes
        | inr r ↦ drained-refused m first_world ws w_now now rest new count step.0 fault step.1 r.0 r.1 r.2 goes
      ] in
      subst (λ (z : Scripted). IsDrained m z ws (Err fault) new rest) (ap (world_in scene) is) answer
