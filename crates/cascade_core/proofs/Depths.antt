-- A cascade through scripts is no deeper than there are outputs that have not sent.
use Rattle.std.proofs.Common.{◌≡◌, ℕ, ◌+◌, ◌<◌, ◌≤◌, Bool, true, false, List, ◌∙◌, zero, suc, refl, arith}
use Rattle.std.specs.List.{fold}
use Rattle.std.proofs.Math.Numerals.{add-one}
use Rattle.x3d_values.specs.declared.script.Kind.{Kind}
use Rattle.x3d_values.specs.declared.value.Value.{Value}
use Rattle.react_core.specs.declared.outbox.SentEvent.{SentEvent}
use Rattle.scene_core.specs.declared.scene.End.{End}
use Rattle.script_running.specs.Acting.{kinds_of}
use Rattle.script_running.proofs.CallLemmas.{kinds_stand}
use Rattle.cascade_core.specs.Course.{CourseView, Wiring, ports_of}
use Rattle.cascade_trace.specs.Ends.{has_sent, targets_of}
use Rattle.cascade_core.specs.Outputs.{ends_from, is_scene_output, outputs_of}
use Rattle.cascade_core.specs.Cascade.{Reacted, deliver, reached, recorded, send}
use Rattle.cascade_core.specs.Sound.{IsSound}
use Rattle.cascade_core.specs.Stack.{unsent}
use Rattle.cascade_core.proofs.Folds.{fold-same, all_free}
use Rattle.cascade_core.proofs.Fuel.{unsent-bound, unsent-less, unsent-push}
use Rattle.cascade_core.proofs.Keeping.{deliver-of, send-of}
use Rattle.cascade_core.proofs.SoundLemmas.{reached-kinds, reached-sends, reached-sent}

module _ (wiring : Wiring) (kinds : List Kind) (sound : IsSound wiring kinds) where
  -- at most k outputs have not sent, and the scripts are of these kinds
  abbrev Few : ℕ → CourseView → Type 0
  Few k c = (unsent wiring.shapes c.live ≤ k) × (kinds_of c.scripts ≡ kinds)

  sent-keeps : (k depth : ℕ) (c : CourseView) (source : End) (v : Value) → Few k c → Few k (send wiring depth c source v)
  sent-keeps k depth c source v p =
      send-of wiring (Few k) (λ d s w new q. (omega (arith, q.0, unsent-push (ends_from 0 wiring.shapes) d.live.sent s), q.1))
      (λ d a q. q) (λ d b q. q) (λ d j call q. (q.0, kinds_stand (ports_of wiring j) call j d.scripts ∙ q.1)) depth c source v p

  delivered-keeps : (k depth : ℕ) (c : CourseView) (v : Value) (target : End) → Few k c → Few k (deliver (send wiring depth) wiring v c target)
  delivered-keeps k depth c v target p =
      deliver-of wiring (Few k) (λ d s w new q. (omega (arith, q.0, unsent-push (ends_from 0 wiring.shapes) d.live.sent s), q.1))
      (λ d a q. q) (λ d b q. q) (λ d j call q. (q.0, kinds_stand (ports_of wiring j) call j d.scripts ∙ q.1))
      (send wiring depth) (λ d s w q. sent-keeps k depth d s w q) v c target p

  -- two depths are alike for outputs, while at most k have not sent
  abbrev Alike : ℕ → ℕ → ℕ → Type 0
  Alike k d e = (c : CourseView) (source : End) (v : Value) → is_scene_output wiring.shapes source ≡ true → Few k c → send wiring d c source v ≡ send wiring e c source v

  reached-few : (k : ℕ) (c : CourseView) (target : End) (v : Value) → Few k c → Few k (reached wiring c target v).course
  reached-few k c target v p = (rw (reached-sent wiring c target v) p.0, reached-kinds wiring c target v ∙ p.1)

  deliver-same : (k d e : ℕ) → Alike k d e → (v : Value) (c : CourseView) (target : End) → Few k c →
      deliver (send wiring d) wiring v c target ≡ deliver (send wiring e) wiring v c target
  unfolding deliver
  deliver-same k d e same v c target p =
      let r : Reacted = reached wiring c target v in
      fold-same (Few k) (λ (r : SentEvent). is_scene_output wiring.shapes (record { node = target.node; field = r.field }) ≡ true)
      (λ (t : CourseView) (r : SentEvent). send wiring d t (record { node = target.node; field = r.field }) r.value)
      (λ (t : CourseView) (r : SentEvent). send wiring e t (record { node = target.node; field = r.field }) r.value)
      (λ t r q few. sent-keeps k e t (record { node = target.node; field = r.field }) r.value few)
      (λ t r q few. same t (record { node = target.node; field = r.field }) r.value q few)
      r.course r.replies (reached-sends wiring c target v (rw p.1 sound)) (reached-few k c target v p)

  follow-same : (k d e : ℕ) → Alike k d e → (v : Value) (c : CourseView) (targets : List End) → Few k c →
      fold (deliver (send wiring d) wiring v) c targets ≡ fold (deliver (send wiring e) wiring v) c targets
  follow-same k d e same v c targets p =
      fold-same (Few k) (λ (t : End). Unit {0}) (deliver (send wiring d) wiring v) (deliver (send wiring e) wiring v)
      (λ t target q few. delivered-keeps k e t v target few)
      (λ t target q few. deliver-same k d e same v t target few)
      c targets (all_free targets) p

  -- depths above the number of outputs that have not sent are alike
  abbrev Deep : ℕ → ℕ → Type 0
  Deep d e = (c : CourseView) (source : End) (v : Value) → is_scene_output wiring.shapes source ≡ true → kinds_of c.scripts ≡ kinds →
      unsent wiring.shapes c.live < d → unsent wiring.shapes c.live < e → send wiring d c source v ≡ send wiring e c source v

  step-same : (d e : ℕ) → Deep d e → (c : CourseView) (source : End) (v : Value) → is_scene_output wiring.shapes source ≡ true → kinds_of c.scripts ≡ kinds →
      unsent wiring.shapes c.live < suc d → unsent wiring.shapes c.live < suc e → (b : Bool) → has_sent c.live.sent source ≡ b →
      send wiring (suc d) c source v ≡ send wiring (suc e) c source v
  unfolding send
  step-same d e same c source v o of hd he true h = rw h refl
  step-same d e same c source v o of hd he false h =
      let after : CourseView = recorded c source v in
      let less : unsent wiring.shapes after.live < unsent wiring.shapes c.live = unsent-less (ends_from 0 wiring.shapes) c.live.sent source o h in
      rw h
      (follow-same (unsent wiring.shapes after.live) d e (λ t s w o' few. same t s w o' few.1 (omega (arith, less, few.0)) (omega (arith, less, few.0))) v after (targets_of wiring.routes source)
      (omega arith, of))

  pub send-depth : (d e : ℕ) → Deep d e
  send-depth zero e c source v o of hd he = absurd (omega arith)
  send-depth (suc d) zero c source v o of hd he = absurd (omega arith)
  send-depth (suc d) (suc e) c source v o of hd he = step-same d e (send-depth d e) c source v o of hd he (has_sent c.live.sent source) refl

  first : (d : ℕ) (c : CourseView) (source : End) (v : Value) → has_sent c.live.sent source ≡ false →
      send wiring (d + 1) c source v ≡ fold (deliver (send wiring d) wiring v) (recorded c source v) (targets_of wiring.routes source)
  unfolding send
  first d c source v h = rw (add-one d, h) refl

  -- the full depth is one step and then the full depth
  pub send_full-new : (c : CourseView) (source : End) (v : Value) → is_scene_output wiring.shapes source ≡ true → kinds_of c.scripts ≡ kinds → has_sent c.live.sent source ≡ false →
      send wiring (outputs_of wiring.shapes + 1) c source v
      ≡ fold (deliver (send wiring (outputs_of wiring.shapes + 1)) wiring v) (recorded c source v) (targets_of wiring.routes source)
  send_full-new c source v o of h =
      let after : CourseView = recorded c source v in
      let less : unsent wiring.shapes after.live < unsent wiring.shapes c.live = unsent-less (ends_from 0 wiring.shapes) c.live.sent source o h in
      let bound : unsent wiring.shapes c.live ≤ outputs_of wiring.shapes = unsent-bound wiring.shapes c.live in
      let again = follow-same (unsent wiring.shapes after.live) (outputs_of wiring.shapes) (outputs_of wiring.shapes + 1)
      (λ (t : CourseView) (s : End) (w : Value) (o' : is_scene_output wiring.shapes s ≡ true) (few : Few (unsent wiring.shapes after.live) t).
      send-depth (outputs_of wiring.shapes) (outputs_of wiring.shapes + 1) t s w o' few.1 (omega (arith, less, few.0, bound)) (omega (arith, less, few.0, bound)))
      v after (targets_of wiring.routes source) (omega arith, of) in
      first (outputs_of wiring.shapes) c source v h ∙ again

-- an output that has sent sends nothing
pub send_full-sent : (wiring : Wiring) (c : CourseView) (source : End) (v : Value) → has_sent c.live.sent source ≡ true → send wiring (outputs_of wiring.shapes + 1) c source v ≡ c
unfolding send
send_full-sent wiring c source v h = sent (outputs_of wiring.shapes + 1)
  where
    sent : (depth : ℕ) → send wiring depth c source v ≡ c
    sent zero = refl
    sent (suc depth) = rw h refl
