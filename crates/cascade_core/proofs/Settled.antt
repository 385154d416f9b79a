-- What each event and each call of a script keep, settling and the opening keep.
use Rattle.std.proofs.Common.{◌≡◌, ℕ, false, List, [], ◌∷◌, Option, Some, None, zero, suc, refl}
use Rattle.x3d_values.specs.declared.value.Value.{Value}
use Rattle.x3d_values.specs.Pointing.{PointerView}
use Rattle.x3d_values.specs.Stamp.{StampedView}
use Rattle.scene_core.specs.declared.scene.End.{End}
use Rattle.scene_core.specs.Scene.{SceneView}
use Rattle.script_host.specs.Behaviour.{Call, Settle}
use Rattle.script_running.specs.Acting.{act}
use Rattle.script_slots.specs.Settling.{with_settled}
use Rattle.cascade_world.specs.Answers.{NodeAnswer, with_answer}
use Rattle.cascade_core.specs.Apply.{SendingView, after_input, happen, sent_by_all, with_button}
use Rattle.cascade_core.specs.Cascade.{recorded, send_replies}
use Rattle.cascade_core.specs.Course.{CourseView, Wiring, node_of, ports_of, with_live}
use Rattle.cascade_trace.specs.Ends.{has_sent}
use Rattle.cascade_core.specs.Settles.{next_due, settle, settle_one, settle_up_to}
use Rattle.cascade_core.proofs.Keeping.{called, happen-of, replies-of}

module _ (wiring : Wiring) (P : CourseView → Type 0)
    (records : (c : CourseView) (source : End) (v : Value) → has_sent c.live.sent source ≡ false → P c → P (recorded c source v))
    (answers : (c : CourseView) (a : NodeAnswer) → P c → P (with_live c (with_answer c.live a)))
    (buttons : (c : CourseView) (p : PointerView) → P c → P (with_live c (with_button c.live p)))
    (calls : (c : CourseView) (k : ℕ) (call : Call) → P c → P (called wiring k call c))
    (settles : (c : CourseView) (k : ℕ) → P c → P (record c { scripts = (act (ports_of wiring k) Settle k c.scripts).scripts; settling = with_settled c.settling k })) where
  one-of : (c : CourseView) (k : ℕ) → P c → P (settle_one wiring c k)
  unfolding settle_one
  one-of c k p =
      let a = act (ports_of wiring k) Settle k c.scripts in
      replies-of wiring P records answers buttons calls (node_of wiring k) (record c { scripts = a.scripts; settling = with_settled c.settling k }) a.replies (settles c k p)

  by-of : (n : ℕ) → ((c : CourseView) → P c → P (settle_up_to wiring n c)) → (c : CourseView) (due : Option ℕ) → next_due c ≡ due → P c → P (settle_up_to wiring (suc n) c)
  unfolding settle_up_to
  by-of n keeps c None h p = rw h p
  by-of n keeps c (Some k) h p = rw h (keeps (settle_one wiring c k) (one-of c k p))

  up_to-of : (n : ℕ) (c : CourseView) → P c → P (settle_up_to wiring n c)
  unfolding settle_up_to
  up_to-of zero c p = p
  up_to-of (suc n) c p = by-of n (up_to-of n) c (next_due c) refl p

  pub settle-of : (c : CourseView) → P c → P (settle wiring c)
  settle-of c p = up_to-of c.settling.count c p

  pub input-of : (scene : SceneView) (c : CourseView) (input : StampedView) → P c → P (after_input scene wiring c input)
  input-of scene c input p =
      settle-of (happen scene wiring input.time c input.cause) (happen-of wiring P records answers buttons calls scene input.time c input.cause p)

  pub sent-of : (c : CourseView) (sendings : List SendingView) → P c → P (sent_by_all wiring c sendings)
  sent-of c [] p = p
  sent-of c (x ∷ xs) p = sent-of (send_replies wiring x.node c x.replies) xs (replies-of wiring P records answers buttons calls x.node c x.replies p)
