-- Each step of the work stack keeps what the tasks come to, and leaves less to do.
use Rattle.std.proofs.Common.{◌≡◌, ℕ, ℤ, ◌+◌, ◌*◌, ◌<◌, ◌≤◌, true, false, List, [], ◌∷◌, ◌++◌, ◌∙◌, ap, sym, refl, arith, mul-le-mul_right, map, reverse, length, Some, None}
use Rattle.std.specs.Prelude.{slice_get}
use Rattle.std.specs.List.{fold, AllByRecursion}
use Rattle.cascade_trace.proofs.RoutePlaces.{drop-none, drop-some}
use Rattle.std.proofs.lemmas.List.{reverse-append, length-reverse, map-append, reverse-reverse}
use Rattle.cascade_trace.specs.Ends.{has_sent, targets_of}
use Rattle.x3d_values.specs.declared.script.Kind.{Kind}
use Rattle.script_host.specs.Behaviour.{Call}
use Rattle.script_host.specs.Hosting.{SlotView}
use Rattle.script_running.specs.Acting.{act, kinds_of}
use Rattle.cascade_core.specs.Course.{CourseView, Wiring, node_of, ports_of}
use Rattle.cascade_core.specs.Cascade.{deliver, reached, recorded, send_all, send_full}
use Rattle.cascade_core.specs.Sound.{IsSound}
use Rattle.sensor_plane.specs.declared.meeting.SensorPointer.{SensorPointer}
use Rattle.cascade_world.specs.Answers.{met, ticked}
use Rattle.cascade_core.specs.Outputs.{is_scene_output, ends_from}
use Rattle.cascade_core.specs.Stack.{do_task, finish, IsReady, weight, weights, unsent, work_left}
use Rattle.cascade_core.specs.Replies.{send_by}
use Rattle.cascade_core.proofs.SceneOutputs.{met-sends, ticked-sends}
use Rattle.cascade_core.proofs.Fuel.{unsent-less}
use Rattle.cascade_core.proofs.Depths.{send_full-new}
use Rattle.cascade_core.proofs.SoundLemmas.{act-sends, reached-sends, reached-sent}
use Rattle.x3d_values.specs.declared.value.Value.{Value}
use Rattle.react_core.specs.declared.outbox.SentEvent.{SentEvent}
use Rattle.scene_core.specs.declared.scene.End.{End}
use Rattle.scene_core.specs.Shape.{Shape}
use Rattle.cascade_core.specs.declared.tasks.CascadeTask.{CascadeTask}
use Rattle.cascade_core.specs.declared.tasks.CascadeTask.TheVariants.{Send, Follow}
use Rattle.cascade_world.specs.declared.world.WorldData.{WorldData}
use Rattle.cascade_world.specs.Nodes.{is_clock}
use Rattle.scene_core.specs.Scene.{SceneView, shapes_of, types_of}

reverse-push : {X : Type 0} (xs : List X) (x : X) → reverse (xs ++ x ∷ []) ≡ x ∷ reverse xs
reverse-push xs x = rw reverse-append refl

fold-append : {S X : Type 0} (f : S → X → S) (s : S) (xs ys : List X) → fold f s (xs ++ ys) ≡ fold f (fold f s xs) ys
fold-append f s [] ys = refl
fold-append f s (x ∷ xs) ys = fold-append f (f s x) xs ys

map-reverse : {X Y : Type 0} (f : X → Y) (xs : List X) → map f (reverse xs) ≡ reverse (map f xs)
map-reverse f [] = refl
map-reverse f (x ∷ xs) =
    rw (reverse-append (x ∷ []) xs, reverse-append (f x ∷ []) (map f xs), map-append, map-reverse f xs) refl

reversed : (node : ℕ) (replies : List SentEvent) (tasks : List CascadeTask) → reverse (tasks ++ map (send_by node) (reverse replies)) ≡ map (send_by node) replies ++ reverse tasks
reversed node replies tasks = rw (reverse-append, map-reverse, reverse-reverse) refl

module _ (wiring : Wiring) where
  -- the last task is done first
  pub finish-push : (c : CourseView) (tasks : List CascadeTask) (task : CascadeTask) → finish wiring c (tasks ++ task ∷ []) ≡ finish wiring (do_task wiring c task) tasks
  unfolding finish
  finish-push c tasks task = ap (fold (do_task wiring) c) (reverse-push tasks task)

  sends-done : (node : ℕ) (replies : List SentEvent) (c : CourseView) → fold (do_task wiring) c (map (send_by node) replies) ≡ send_all (send_full wiring) node c replies
  sends-done node [] c = refl
  sends-done node (r ∷ replies) c = sends-done node replies (send_full wiring c (record { node = node; field = r.field }) r.value)

  -- replies that are pushed last to first are sent first to last
  pub finish-replies : (node : ℕ) (replies : List SentEvent) (c : CourseView) (tasks : List CascadeTask) →
      finish wiring c (tasks ++ map (send_by node) (reverse replies)) ≡ finish wiring (send_all (send_full wiring) node c replies) tasks
  unfolding finish
  finish-replies node replies c tasks =
      ap (fold (do_task wiring) c) (reversed node replies tasks)
      ∙ fold-append (do_task wiring) c (map (send_by node) replies) (reverse tasks)
      ∙ ap (λ (t : CourseView). fold (do_task wiring) t (reverse tasks)) (sends-done node replies c)

  pub begin-done : (kinds : List Kind) → IsSound wiring kinds → (c : CourseView) (source : End) (v : Value) (tasks : List CascadeTask) → is_scene_output wiring.shapes source ≡ true → kinds_of c.scripts ≡ kinds →
      has_sent c.live.sent source ≡ false → finish wiring (recorded c source v) (tasks ++ Follow source v 0 ∷ []) ≡ finish wiring (send_full wiring c source v) tasks
  begin-done kinds sound c source v tasks o of h =
      finish-push (recorded c source v) tasks (Follow source v 0)
      ∙ ap (λ (t : CourseView). finish wiring t tasks) (sym (send_full-new wiring kinds sound c source v o of h))

  -- no route is left
  pub follow-none : (c : CourseView) (source : End) (v : Value) (next : ℕ) → slice_get (targets_of wiring.routes source) next ≡ None → do_task wiring c (Follow source v next) ≡ c
  follow-none c source v next h = rw (drop-none (targets_of wiring.routes source) next h) refl

  -- the next route is followed, and the rest are left
  pub follow-one : (c : CourseView) (source : End) (v : Value) (next : ℕ) (target : End) (tasks : List CascadeTask) → slice_get (targets_of wiring.routes source) next ≡ Some target →
      finish wiring (deliver (send_full wiring) wiring v c target) (tasks ++ Follow source v (next + 1) ∷ []) ≡ finish wiring (do_task wiring c (Follow source v next)) tasks
  follow-one c source v next target tasks h =
      finish-push (deliver (send_full wiring) wiring v c target) tasks (Follow source v (next + 1))
      ∙ ap (λ (targets : List End). finish wiring (fold (deliver (send_full wiring) wiring v) c targets) tasks) (sym (drop-some (targets_of wiring.routes source) next target h))

  pub finish-one : (c : CourseView) (source : End) (v : Value) → finish wiring c (Send source v ∷ []) ≡ send_full wiring c source v
  unfolding finish
  finish-one c source v = refl

  pub finish-none : (c : CourseView) → finish wiring c [] ≡ c
  unfolding finish
  finish-none c = refl

  -- replies alone
  pub finish-all : (node : ℕ) (replies : List SentEvent) (c : CourseView) → finish wiring c (map (send_by node) (reverse replies)) ≡ send_all (send_full wiring) node c replies
  finish-all node replies c = finish-replies node replies c [] ∙ finish-none (send_all (send_full wiring) node c replies)

  pub reached-done : (c : CourseView) (target : End) (v : Value) (tasks : List CascadeTask) →
      finish wiring (reached wiring c target v).course (tasks ++ map (send_by target.node) (reverse (reached wiring c target v).replies))
      ≡ finish wiring (deliver (send_full wiring) wiring v c target) tasks
  unfolding deliver
  reached-done c target v tasks =
      let r = reached wiring c target v in finish-replies target.node r.replies r.course tasks

  pub follow-done : (c : CourseView) (source : End) (v : Value) (next : ℕ) (target : End) (tasks : List CascadeTask) → slice_get (targets_of wiring.routes source) next ≡ Some target →
      finish wiring (reached wiring c target v).course ((tasks ++ Follow source v (next + 1) ∷ []) ++ map (send_by target.node) (reverse (reached wiring c target v).replies))
      ≡ finish wiring (do_task wiring c (Follow source v next)) tasks
  follow-done c source v next target tasks h =
      reached-done c target v (tasks ++ Follow source v (next + 1) ∷ []) ∙ follow-one c source v next target tasks h

  -- the last route is followed, and no other is left
  pub last-done : (c : CourseView) (source : End) (v : Value) (next : ℕ) (target : End) (tasks : List CascadeTask) → slice_get (targets_of wiring.routes source) next ≡ Some target →
      slice_get (targets_of wiring.routes source) (next + 1) ≡ None →
      finish wiring (reached wiring c target v).course (tasks ++ map (send_by target.node) (reverse (reached wiring c target v).replies)) ≡ finish wiring (do_task wiring c (Follow source v next)) tasks
  last-done c source v next target tasks h last =
      let after : CourseView = deliver (send_full wiring) wiring v c target in
      reached-done c target v tasks
      ∙ ap (λ (t : CourseView). finish wiring t tasks) (sym (follow-none after source v (next + 1) last))
      ∙ sym (finish-push after tasks (Follow source v (next + 1)))
      ∙ follow-one c source v next target tasks h

  weights-append : (xs ys : List CascadeTask) → weights wiring.routes (xs ++ ys) ≡ weights wiring.routes xs + weights wiring.routes ys
  unfolding weights
  weights-append [] ys = omega arith
  weights-append (x ∷ xs) ys = omega (arith, weights-append xs ys)

  weights-sends : (node : ℕ) (replies : List SentEvent) → weights wiring.routes (map (send_by node) replies) ≡ length replies
  unfolding weights
  weights-sends node [] = refl
  weights-sends node (r ∷ replies) = omega (arith, weights-sends node replies)

  weights-one : (task : CascadeTask) → weights wiring.routes (task ∷ []) ≡ weight wiring.routes task
  unfolding weights
  weights-one task = omega arith

  pub work-push : (c : CourseView) (tasks : List CascadeTask) (task : CascadeTask) → work_left wiring c (tasks ++ task ∷ []) ≡ work_left wiring c tasks + weight wiring.routes task
  unfolding work_left
  work-push c tasks task = omega (arith, weights-append tasks (task ∷ []), weights-one task)

  pub begin-fewer : (c : CourseView) (source : End) (v : Value) (tasks : List CascadeTask) → is_scene_output wiring.shapes source ≡ true → has_sent c.live.sent source ≡ false →
      work_left wiring (recorded c source v) (tasks ++ Follow source v 0 ∷ []) + 1 ≤ work_left wiring c tasks + 1
  unfolding work_left
  begin-fewer c source v tasks o h =
      let after : CourseView = recorded c source v in
      let less : unsent wiring.shapes after.live + 1 ≤ unsent wiring.shapes c.live = omega (arith, unsent-less (ends_from 0 wiring.shapes) c.live.sent source o h) in
      omega (arith, weights-append tasks (Follow source v 0 ∷ []), weights-one (Follow source v 0), mul-le-mul_right (6 * length wiring.routes + 2) less)

  pub follow-fewer : (c : CourseView) (target source : End) (v : Value) (next node : ℕ) (replies : List SentEvent) (tasks : List CascadeTask) → length replies ≤ 5 → next < length wiring.routes →
      work_left wiring (reached wiring c target v).course ((tasks ++ Follow source v (next + 1) ∷ []) ++ map (send_by node) (reverse replies)) + 1
      ≤ work_left wiring c tasks + weight wiring.routes (Follow source v next)
  unfolding work_left
  follow-fewer c target source v next node replies tasks h n =
      rw (reached-sent wiring c target v)
      (omega (
        arith,
        weights-append (tasks ++ Follow source v (next + 1) ∷ []) (map (send_by node) (reverse replies)),
        weights-append tasks (Follow source v (next + 1) ∷ []),
        weights-one (Follow source v (next + 1)),
        weights-sends node (reverse replies),
        length-reverse replies,
      ))

  pub last-fewer : (c : CourseView) (target source : End) (v : Value) (next node : ℕ) (replies : List SentEvent) (tasks : List CascadeTask) → length replies ≤ 5 → next < length wiring.routes →
      work_left wiring (reached wiring c target v).course (tasks ++ map (send_by node) (reverse replies)) + 1
      ≤ work_left wiring c tasks + weight wiring.routes (Follow source v next)
  unfolding work_left
  last-fewer c target source v next node replies tasks h n =
      rw (reached-sent wiring c target v)
      (omega (arith, weights-append tasks (map (send_by node) (reverse replies)), weights-sends node (reverse replies), length-reverse replies))

-- what holds of each of two lists
pub all-append : {X : Type 0} (P : X → Type 0) (xs ys : List X) → AllByRecursion P xs → AllByRecursion P ys → AllByRecursion P (xs ++ ys)
all-append P [] ys p q = q
all-append P (x ∷ xs) ys p q = (p.0, all-append P xs ys p.1 q)

pub all-front : {X : Type 0} (P : X → Type 0) (xs ys : List X) → AllByRecursion P (xs ++ ys) → AllByRecursion P xs
all-front P [] ys p = tt
all-front P (x ∷ xs) ys p = (p.0, all-front P xs ys p.1)

pub all-last : {X : Type 0} (P : X → Type 0) (xs : List X) (x : X) → AllByRecursion P (xs ++ x ∷ []) → P x
all-last P [] x p = p.0
all-last P (y ∷ xs) x p = all-last P xs x p.1

all-reverse : {X : Type 0} (P : X → Type 0) (xs : List X) → AllByRecursion P xs → AllByRecursion P (reverse xs)
all-reverse P [] p = tt
all-reverse P (x ∷ xs) p = rw (reverse-append (x ∷ []) xs) (all-append P (reverse xs) (x ∷ []) (all-reverse P xs p.1) (p.0, tt))

all-map : (shapes : List Shape) (node : ℕ) (replies : List SentEvent) →
    AllByRecursion (λ (r : SentEvent). is_scene_output shapes (record { node = node; field = r.field }) ≡ true) replies → AllByRecursion (IsReady shapes) (map (send_by node) replies)
all-map shapes node [] p = tt
all-map shapes node (r ∷ replies) p = (p.0, all-map shapes node replies p.1)

-- what a time sensor sends at a tick is sent by outputs
pub ticked-ready : (scene : SceneView) (w : WorldData) (node : ℕ) (now : ℤ) → is_clock (types_of scene) node ≡ true →
    AllByRecursion (IsReady (shapes_of scene)) (map (send_by node) (reverse (ticked w node now).replies))
ticked-ready scene w node now h =
    let rs = (ticked w node now).replies in
    all-map (shapes_of scene) node (reverse rs)
    (all-reverse (λ (r : SentEvent). is_scene_output (shapes_of scene) (record { node = node; field = r.field }) ≡ true) rs (ticked-sends scene w node now h))

-- what a pointing sensor sends at a pointer is sent by outputs
pub met-ready : (scene : SceneView) (w : WorldData) (node : ℕ) (at : SensorPointer) →
    AllByRecursion (IsReady (shapes_of scene)) (map (send_by node) (reverse (met scene w node at).replies))
met-ready scene w node at =
    let rs = (met scene w node at).replies in
    all-map (shapes_of scene) node (reverse rs)
    (all-reverse (λ (r : SentEvent). is_scene_output (shapes_of scene) (record { node = node; field = r.field }) ≡ true) rs (met-sends scene w node at))

-- what the node of a script sends is sent by outputs
pub act-ready : (wiring : Wiring) (scripts : List SlotView) → IsSound wiring (kinds_of scripts) → (k : ℕ) (call : Call) →
    AllByRecursion (IsReady wiring.shapes) (map (send_by (node_of wiring k)) (reverse (act (ports_of wiring k) call k scripts).replies))
act-ready wiring scripts sound k call =
    let rs = (act (ports_of wiring k) call k scripts).replies in
    all-map wiring.shapes (node_of wiring k) (reverse rs)
    (all-reverse (λ (r : SentEvent). is_scene_output wiring.shapes (record { node = node_of wiring k; field = r.field }) ≡ true) rs (act-sends wiring scripts sound k call))

-- the replies of a target are sent by outputs
pub reached-ready : (wiring : Wiring) (c : CourseView) (target : End) (v : Value) (tasks : List CascadeTask) → IsSound wiring (kinds_of c.scripts) → AllByRecursion (IsReady wiring.shapes) tasks →
    AllByRecursion (IsReady wiring.shapes) (tasks ++ map (send_by target.node) (reverse (reached wiring c target v).replies))
reached-ready wiring c target v tasks sound p =
    let rs = (reached wiring c target v).replies in
    all-append (IsReady wiring.shapes) tasks (map (send_by target.node) (reverse rs)) p
    (all-map wiring.shapes target.node (reverse rs)
    (all-reverse (λ (r : SentEvent). is_scene_output wiring.shapes (record { node = target.node; field = r.field }) ≡ true) rs (reached-sends wiring c target v sound)))

pub follow-ready : (shapes : List Shape) (source : End) (v : Value) (next : ℕ) (tasks : List CascadeTask) → AllByRecursion (IsReady shapes) tasks →
    AllByRecursion (IsReady shapes) (tasks ++ Follow source v next ∷ [])
follow-ready shapes source v next tasks p = all-append (IsReady shapes) tasks (Follow source v next ∷ []) p (tt, tt)
