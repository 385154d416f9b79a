-- Scripts of a sound wiring send by outputs of the scene, and what an event comes to at its target.
use Rattle.std.proofs.Common.{◌≡◌, ℕ, ◌+◌, ◌<◌, Bool, true, false, ◌&&◌, List, [], ◌∷◌, Option, Some, None, ◌∙◌, ap, sym, zero, suc, refl, arith, length, map, eqb-true}
use Rattle.std.specs.Prelude.{◌==◌, nat_lt, slice_get, slice_index_or, if◌then◌else◌}
use Rattle.std.specs.Option.{option_and_then, option_map, option_map_or}
use Rattle.std.proofs.lemmas.Bool.{ltb-true}
use Rattle.std.proofs.lemmas.List.{length-map}
use Rattle.x3d_values.specs.declared.script.Kind.{Kind}
use Rattle.x3d_values.specs.declared.value.Value.{Value}
use Rattle.scene_core.specs.declared.scene.End.{End}
use Rattle.scene_core.specs.Shape.{Shape}
use Rattle.script_running.specs.declared.run.Run.{Run}
use Rattle.script_host.specs.Behaviour.{Call}
use Rattle.script_host.specs.Hosting.{SlotView, answer_of}
use Rattle.script_host.specs.Interface.{outputs}
use Rattle.script_host.specs.Outputs.{leave_by_outputs}
use Rattle.script_slots.specs.declared.reply.Reply as host
use Rattle.script_host.proofs.OutputLemmas.{sends_by_outputs}
use Rattle.script_running.specs.Acting.{act, acting, call_of, kinds_of}
use Rattle.script_running.specs.Ports.{PortsView, reply_of}
use Rattle.script_running.proofs.CallLemmas.{kinds_stand}
use Rattle.cascade_core.specs.Course.{CourseView, Wiring, node_of, ports_of, script_of}
use Rattle.cascade_core.specs.Scripts.{script_from}
use Rattle.cascade_core.specs.Outputs.{is_scene_output}
use Rattle.cascade_core.specs.Cascade.{Arrival, arrival, reached, reached_by}
use Rattle.cascade_core.specs.Sound.{HasScriptsOf, IsSound, are_outputs}
use Rattle.cascade_core.proofs.SceneOutputs.{AllOutputs, answer-sends}

both : (x y : Bool) → (x && y) ≡ true → (x ≡ true) × (y ≡ true)
both true true h = (refl, refl)
both true false h = (refl, h)
both false y h = cc

-- ---- what a script sends

output-at : (shapes : List Shape) (node : ℕ) (fields : List ℕ) (i : ℕ) → are_outputs shapes node fields ≡ true → i < length fields →
    is_scene_output shapes (record { node = node; field = slice_index_or fields i 0 }) ≡ true
output-at shapes node [] i all h = absurd (omega arith)
output-at shapes node (f ∷ fields) zero all h = (both _ (are_outputs shapes node fields) all).0
output-at shapes node (f ∷ fields) (suc i) all h = output-at shapes node fields i (both _ (are_outputs shapes node fields) all).1 (omega arith)

replies-sent : (shapes : List Shape) (node : ℕ) (kind : Kind) (ports : PortsView) → length ports.outputs ≡ length (outputs kind) → are_outputs shapes node ports.outputs ≡ true →
    (replies : List host.Reply) → leave_by_outputs kind replies ≡ true → AllOutputs shapes node (map (reply_of kind ports) replies)
replies-sent shapes node kind ports many all [] h = tt
replies-sent shapes node kind ports many all (r ∷ replies) h =
    let (one, rest) = both (nat_lt r.output (length (outputs kind))) (leave_by_outputs kind replies) h in
    let below : r.output < length ports.outputs = omega (arith, ltb-true r.output (length (outputs kind)) one, many) in
    (output-at shapes node ports.outputs r.output all below, replies-sent shapes node kind ports many all replies rest)

kind-at : (scripts : List SlotView) (k : ℕ) (r : SlotView) → slice_get scripts k ≡ Some r → slice_get (kinds_of scripts) k ≡ Some r.kind
kind-at [] k r h = cc
kind-at (s ∷ scripts) zero r h = let same : s ≡ r = cc in ap (λ (x : SlotView). Some x.kind) same
kind-at (s ∷ scripts) (suc k) r h = kind-at scripts k r h

module _ (wiring : Wiring) where
  -- what a script sends leaves by outputs of its node
  pub act-sends : (scripts : List SlotView) → IsSound wiring (kinds_of scripts) → (k : ℕ) (call : Call) →
      AllOutputs wiring.shapes (node_of wiring k) (act (ports_of wiring k) call k scripts).replies
  unfolding act
  act-sends scripts sound k call = by-place (slice_get scripts k) refl
    where
      by-place : (place : Option SlotView) → slice_get scripts k ≡ place → AllOutputs wiring.shapes (node_of wiring k) (acting (ports_of wiring k) call k scripts place).replies
      by-place None h = tt
      by-place (Some r) h =
          replies-sent wiring.shapes (node_of wiring k) r.kind (ports_of wiring k) (sound.count k r.kind (kind-at scripts k r h)) (sound.sends k r.kind (kind-at scripts k r h))
          (answer_of call r).replies (sends_by_outputs r.kind call r.state)

  -- ---- the script of a node

  script-there : (runs : List Run) (n node k : ℕ) → script_from n runs node ≡ Some k → (i : ℕ) × (k ≡ n + i) × (option_map_or (λ (run : Run). run.node) (slice_get runs i) 0 ≡ node)
  script-there [] n node k h = cc
  script-there (run ∷ runs) n node k h = cases (run.node == node) refl h (λ m. script-there runs (n + 1) node k m)
    where
      cases : (b : Bool) → (run.node == node) ≡ b → (if b then Some n else script_from (n + 1) runs node) ≡ Some k →
          (script_from (n + 1) runs node ≡ Some k → (i : ℕ) × (k ≡ (n + 1) + i) × (option_map_or (λ (run : Run). run.node) (slice_get runs i) 0 ≡ node)) →
          (i : ℕ) × (k ≡ n + i) × (option_map_or (λ (run : Run). run.node) (slice_get (run ∷ runs) i) 0 ≡ node)
      cases true is m rest =
          let same : n ≡ k = cc in
          (0, omega arith, eqb-true run.node node is)
      cases false is m rest =
          let (i, at, there) = rest m in
          (suc i, omega (arith, at), there)

  pub script-below : (node k : ℕ) → script_of wiring node ≡ Some k → k < length wiring.runs
  script-below node k h = omega (arith, within wiring.runs 0 h)
    where
      within : (runs : List Run) (n : ℕ) → script_from n runs node ≡ Some k → k < n + length runs
      within [] n m = cc
      within (run ∷ runs) n m = cases (run.node == node) m (λ more. within runs (n + 1) more)
        where
          cases : (b : Bool) → (if b then Some n else script_from (n + 1) runs node) ≡ Some k → (script_from (n + 1) runs node ≡ Some k → k < (n + 1) + length runs) → k < n + length (run ∷ runs)
          cases true m rest = let same : n ≡ k = cc in omega arith
          cases false m rest = omega (arith, rest m)

  pub script-node : (node k : ℕ) → script_of wiring node ≡ Some k → node_of wiring k ≡ node
  script-node node k h =
      let (i, at, there) = script-there wiring.runs 0 node k h in
      let same : k ≡ i = omega (arith, at) in
      rw same there

  -- ---- what an event comes to

  arrived : (c : CourseView) (target : End) (v : Value) (at : Arrival) → arrival wiring c target v ≡ Some at → script_of wiring target.node ≡ Some at.number
  arrived c target v at h = by-script (script_of wiring target.node) refl h
    where
      by-call : (k : ℕ) (call : Option Call) → option_map (λ call. record { number = k; call = call }) call ≡ Some at → k ≡ at.number
      by-call k None m = cc
      by-call k (Some call) m = let same : record { number = k; call = call } ≡ at = cc in ap (λ (a : Arrival). a.number) same

      by-script : (found : Option ℕ) → script_of wiring target.node ≡ found →
          option_and_then (λ k. option_map (λ call. record { number = k; call = call }) (call_of (ports_of wiring k) k target.field v c.scripts)) found ≡ Some at →
          found ≡ Some at.number
      by-script None is m = cc
      by-script (Some k) is m = ap Some (by-call k (call_of (ports_of wiring k) k target.field v c.scripts) m)

  pub reached-sends : (c : CourseView) (target : End) (v : Value) → IsSound wiring (kinds_of c.scripts) → AllOutputs wiring.shapes target.node (reached wiring c target v).replies
  unfolding reached
  reached-sends c target v sound = by-arrival (arrival wiring c target v) refl
    where
      by-arrival : (at : Option Arrival) → arrival wiring c target v ≡ at → AllOutputs wiring.shapes target.node (reached_by wiring c target v at).replies
      by-arrival None h = answer-sends wiring.shapes c.live.world target v
      by-arrival (Some at) h =
          let here : node_of wiring at.number ≡ target.node = script-node target.node at.number (arrived c target v at h) in
          rw here at (act-sends c.scripts sound at.number at.call)

  -- no output has sent more
  pub reached-sent : (c : CourseView) (target : End) (v : Value) → (reached wiring c target v).course.live.sent ≡ c.live.sent
  unfolding reached
  reached-sent c target v = by-arrival (arrival wiring c target v)
    where
      by-arrival : (at : Option Arrival) → (reached_by wiring c target v at).course.live.sent ≡ c.live.sent
      by-arrival None = refl
      by-arrival (Some at) = refl

  pub reached-kinds : (c : CourseView) (target : End) (v : Value) → kinds_of (reached wiring c target v).course.scripts ≡ kinds_of c.scripts
  unfolding reached
  reached-kinds c target v = by-arrival (arrival wiring c target v)
    where
      by-arrival : (at : Option Arrival) → kinds_of (reached_by wiring c target v at).course.scripts ≡ kinds_of c.scripts
      by-arrival None = refl
      by-arrival (Some at) = kinds_stand (ports_of wiring at.number) at.call at.number c.scripts

-- ---- the scripts of a course

-- what keeps the kinds and the count keeps the scripts that the wiring runs
pub has_scripts_still : (wiring : Wiring) (old new : CourseView) → kinds_of new.scripts ≡ kinds_of old.scripts → new.settling.count ≡ old.settling.count → HasScriptsOf wiring old → HasScriptsOf wiring new
has_scripts_still wiring old new kinds count has_scripts = record {
  sound = rw kinds has_scripts.sound;
  counted = count ∙ has_scripts.counted ∙ ap length (sym kinds);
}

pub has_scripts-many : (wiring : Wiring) (c : CourseView) → HasScriptsOf wiring c → length wiring.runs ≡ length c.scripts
has_scripts-many wiring c has_scripts = has_scripts.sound.many ∙ length-map c.scripts (λ (r : SlotView). r.kind)

pub has_scripts-counted : (wiring : Wiring) (c : CourseView) → HasScriptsOf wiring c → c.settling.count ≡ length c.scripts
has_scripts-counted wiring c has_scripts = has_scripts.counted ∙ length-map c.scripts (λ (r : SlotView). r.kind)
