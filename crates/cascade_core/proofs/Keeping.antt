-- What each event and each call of a script keep, a whole course of events keeps.
use Rattle.std.proofs.Common.{◌≡◌, ℕ, ℤ, ◌+◌, Bool, true, false, List, [], ◌∷◌, Option, Some, None, zero, suc, refl}
use Rattle.std.specs.List.{fold}
use Rattle.x3d_values.specs.declared.value.Value.{Value}
use Rattle.x3d_values.specs.declared.stamped.Cause.{Cause}
use Rattle.x3d_values.specs.declared.stamped.Cause.TheVariants.{Clock, Pointer}
use Rattle.x3d_values.specs.Pointing.{PointerView}
use Rattle.react_core.specs.declared.outbox.SentEvent.{SentEvent}
use Rattle.scene_core.specs.declared.scene.End.{End}
use Rattle.scene_core.specs.Scene.{SceneView, types_of}
use Rattle.script_host.specs.Behaviour.{Call}
use Rattle.script_running.specs.Acting.{act}
use Rattle.script_slots.specs.Settling.{with_received}
use Rattle.cascade_world.specs.Answers.{NodeAnswer, answer, met, pointer_at, ticked, with_answer}
use Rattle.cascade_core.specs.Apply.{with_button}
use Rattle.cascade_trace.specs.Ends.{has_sent, targets_of}
use Rattle.cascade_world.specs.Nodes.{clocks_of}
use Rattle.cascade_core.specs.Outputs.{outputs_of}
use Rattle.cascade_world.specs.Insides.{Insides, insides}
use Rattle.cascade_world.specs.Pointer.{concerned, is_down}
use Rattle.cascade_world.specs.declared.aim.Concerned.{Concerned}
use Rattle.cascade_core.specs.Course.{CourseView, Wiring, ports_of, with_live}
use Rattle.cascade_core.specs.Cascade.{Arrival, Reacted, arrival, deliver, reached, reached_by, recorded, send, send_all, send_replies}
use Rattle.cascade_core.specs.Apply.{happen, point, point_node, tick_node}

-- a script was called by an event
abbrev pub called : Wiring → ℕ → Call → CourseView → CourseView
called wiring k call c = record c { scripts = (act (ports_of wiring k) call k c.scripts).scripts; settling = with_received c.settling k }

module _ (wiring : Wiring) (P : CourseView → Type 0)
    (records : (c : CourseView) (source : End) (v : Value) → has_sent c.live.sent source ≡ false → P c → P (recorded c source v))
    (answers : (c : CourseView) (a : NodeAnswer) → P c → P (with_live c (with_answer c.live a)))
    (buttons : (c : CourseView) (p : PointerView) → P c → P (with_live c (with_button c.live p)))
    (calls : (c : CourseView) (k : ℕ) (call : Call) → P c → P (called wiring k call c)) where
  abbrev KeepsAt : (CourseView → End → Value → CourseView) → Type 0
  KeepsAt go = (c : CourseView) (e : End) (v : Value) → P c → P (go c e v)

  pub fold-of : {X : Type 0} (f : CourseView → X → CourseView) → ((c : CourseView) (x : X) → P c → P (f c x)) → (c : CourseView) (xs : List X) → P c → P (fold f c xs)
  fold-of f keeps c [] p = p
  fold-of f keeps c (x ∷ xs) p = fold-of f keeps (f c x) xs (keeps c x p)

  all-of : (go : CourseView → End → Value → CourseView) → KeepsAt go → (node : ℕ) (c : CourseView) (replies : List SentEvent) → P c → P (send_all go node c replies)
  all-of go keeps node c replies p =
      fold-of (λ (t : CourseView) (r : SentEvent). go t (record { node = node; field = r.field }) r.value)
      (λ t r q. keeps t (record { node = node; field = r.field }) r.value q) c replies p

  reached_by-of : (c : CourseView) (target : End) (v : Value) (at : Option Arrival) → P c → P (reached_by wiring c target v at).course
  reached_by-of c target v (Some at) p = calls c at.number at.call p
  reached_by-of c target v None p = answers c (answer wiring.shapes c.live.world target v) p

  pub deliver-of : (go : CourseView → End → Value → CourseView) → KeepsAt go → (v : Value) (c : CourseView) (target : End) → P c → P (deliver go wiring v c target)
  unfolding deliver reached
  deliver-of go keeps v c target p =
      let at : Option Arrival = arrival wiring c target v in
      let r : Reacted = reached_by wiring c target v at in
      all-of go keeps target.node r.course r.replies (reached_by-of c target v at p)

  send-by-of : (depth : ℕ) → KeepsAt (send wiring depth) → (c : CourseView) (source : End) (v : Value) (b : Bool) → has_sent c.live.sent source ≡ b →
      P c → P (send wiring (suc depth) c source v)
  unfolding send
  send-by-of depth keeps c source v true h p = rw h p
  send-by-of depth keeps c source v false h p =
      rw h (fold-of (deliver (send wiring depth) wiring v) (λ d target q. deliver-of (send wiring depth) keeps v d target q) (recorded c source v) (targets_of wiring.routes source) (records c source v h p))

  pub send-of : (depth : ℕ) → KeepsAt (send wiring depth)
  unfolding send
  send-of zero c source v p = p
  send-of (suc depth) c source v p = send-by-of depth (send-of depth) c source v (has_sent c.live.sent source) refl p

  pub replies-of : (node : ℕ) (c : CourseView) (replies : List SentEvent) → P c → P (send_replies wiring node c replies)
  replies-of node c replies p = all-of (send wiring (outputs_of wiring.shapes + 1)) (send-of (outputs_of wiring.shapes + 1)) node c replies p

  tick-of : (now : ℤ) (c : CourseView) (node : ℕ) → P c → P (tick_node wiring now c node)
  unfolding tick_node
  tick-of now c node p = let t = ticked c.live.world node now in replies-of node (with_live c (with_answer c.live t)) t.replies (answers c t p)

  point_node-of : (scene : SceneView) (p : PointerView) (before : Bool) (is : Insides) (c : CourseView) (x : Concerned) → P c → P (point_node scene wiring p before is c x)
  unfolding point_node
  point_node-of scene p before is c x q =
      let a = met scene c.live.world x.sensor (pointer_at p before is x.tracked x.sensor) in
      replies-of x.sensor (with_live c (with_answer c.live a)) a.replies (answers c a q)

  point-of : (scene : SceneView) (c : CourseView) (p : PointerView) → P c → P (point scene wiring c p)
  unfolding point
  point-of scene c p q =
      let is : Insides = insides scene c.live.world.fields p.ray in
      let before : Bool = is_down c.live.world p.who in
      fold-of (point_node scene wiring p before is) (λ d n r. point_node-of scene p before is d n r)
      (with_live c (with_button c.live p)) (concerned scene c.live.world p) (buttons c p q)

  pub happen-of : (scene : SceneView) (now : ℤ) (c : CourseView) (cause : Cause) → P c → P (happen scene wiring now c cause)
  happen-of scene now c Clock p = fold-of (tick_node wiring now) (λ d n q. tick-of now d n q) c (clocks_of (types_of scene)) p
  happen-of scene now c (Pointer pointing) p = point-of scene c pointing p
