-- What each event, each answer and each call of a script keep, all inputs and openings keep.
use Rattle.std.proofs.Common.{◌≡◌, ℕ, zero, suc, ◌+◌, ℤ, Bool, true, false, if◌then◌else◌, List, [], ◌∷◌, ◌++◌, length, map, Option, Some, None, slice_get, refl, subst}
use Rattle.std.specs.List.{AllByRecursion, filter, range_with_len}
use Rattle.x3d_values.specs.declared.node_type.NodeType.{NodeType}
use Rattle.x3d_values.specs.declared.stamped.Cause.{Cause}
use Rattle.x3d_values.specs.declared.stamped.Cause.TheVariants.{Clock, Pointer}
use Rattle.x3d_values.specs.declared.value.Value.{Value}
use Rattle.x3d_values.specs.Pointing.{PointerView}
use Rattle.x3d_values.specs.Stamp.{StampedView}
use Rattle.react_core.specs.declared.outbox.SentEvent.{SentEvent}
use Rattle.react_core.specs.Reaction.{is_time_sensor}
use Rattle.scene_core.specs.declared.scene.End.{End}
use Rattle.scene_core.specs.declared.scene.Route.{Route}
use Rattle.scene_core.specs.Places.{is_pointing}
use Rattle.scene_core.specs.Scene.{SceneView, shapes_of, types_of}
use Rattle.script_host.specs.Behaviour.{Call, Initialize, Settle}
use Rattle.script_host.specs.Hosting.{SlotView}
use Rattle.script_running.specs.Acting.{Acted, act}
use Rattle.script_slots.specs.Settling.{with_settled}
use Rattle.laws_worlds.specs.Calls.{call_fits}
use Rattle.cascade_world.specs.Answers.{NodeAnswer, answer, met, pointer_at, ticked, with_answer}
use Rattle.cascade_core.specs.Apply.{SendingView, Started, after_input, begin, begun, happen, opening, opening_course, point, point_node, sent_by_all, start_one, started, tick_node, untold, with_button}
use Rattle.cascade_core.specs.Cascade.{Arrival, arrival, deliver, reached, reached_by, recorded, send, send_all, send_replies}
use Rattle.cascade_core.specs.Course.{CourseView, Wiring, Scripted, ended, node_of, wiring_of, ports_of, with_live}
use Rattle.cascade_trace.specs.Ends.{has_sent, targets_of}
use Rattle.cascade_world.specs.Insides.{insides}
use Rattle.cascade_world.specs.Nodes.{clocks_of, is_clock, is_of, is_sensor, numbers_of, pointing_sensors_of}
use Rattle.cascade_core.specs.Outputs.{outputs_of}
use Rattle.cascade_world.specs.Pointer.{concerned, is_down, is_pressed, or_all, pressed, tracked_at, tracking, untracked}
use Rattle.cascade_core.specs.Scripts.{kinds_in, running, scripts_in}
use Rattle.cascade_core.specs.Settles.{next_due, settle, settle_one, settle_up_to}
use Rattle.cascade_world.specs.World.{record_event}
use Rattle.cascade_world.specs.declared.aim.Concerned.{Concerned}
use Rattle.cascade_world.specs.declared.world.Live.{Live}
use Rattle.cascade_world.specs.declared.world.WorldData.{WorldData}
use Rattle.cascade_core.proofs.Folds.{all_free, fold-keeps}
use Rattle.laws_worlds.proofs.Casts.{Arrives, arrives}

-- ---- what is kept

-- each of these leaves by a field of the node as Q allows
abbrev pub AllSent : (End → Value → Type 0) → ℕ → List SentEvent → Type 0
AllSent Q node replies = AllByRecursion (λ (r : SentEvent). Q (record { node = node; field = r.field }) r.value) replies

-- the world after a node has answered, and what the node sends
abbrev pub AnswerKeeps : (Live → Type 0) → (End → Value → Type 0) → ℕ → Live → NodeAnswer → Type 0
AnswerKeeps T Q node live a = T (with_answer live a) × AllSent Q node a.replies

-- the scripts after a call, and what the node of the script sends
abbrev pub ActKeeps : (List SlotView → Type 0) → (End → Value → Type 0) → ℕ → Acted → Type 0
ActKeeps S Q node a = S a.scripts × AllSent Q node a.replies

-- each script of that number takes the call
abbrev pub Takes : List SlotView → ℕ → Call → Type 0
Takes scripts k call = (r : SlotView) → slice_get scripts k ≡ Some r → call_fits r.kind call ≡ true

-- T holds of worlds, and S of scripts, while events leave as Q allows, and come as R allows
pub record Rules (scene : SceneView) (routes : List Route) (T : Live → Type 0) (S : List SlotView → Type 0) (Q R : End → Value → Type 0) : Type 0 where
  pub comes : (source : End) (v : Value) → Q source v → AllByRecursion (λ (target : End). R target v) (targets_of routes source)
  pub records : (live : Live) (source : End) (v : Value) → has_sent live.sent source ≡ false → Q source v → T live → T (record_event live source v)
  pub answers : (live : Live) (target : End) (v : Value) → R target v → T live → AnswerKeeps T Q target.node live (answer (shapes_of scene) live.world target v)
  pub calls : (scripts : List SlotView) (k : ℕ) (call : Call) → Takes scripts k call → S scripts
      → ActKeeps S Q (node_of (wiring_of scene routes) k) (act (ports_of (wiring_of scene routes) k) call k scripts)

-- both hold of a course
pub record Holds (T : Live → Type 0) (S : List SlotView → Type 0) (c : CourseView) : Type 0 where
  pub live : T c.live
  pub scripts : S c.scripts

-- where the clock ticks
abbrev pub TickKeeps : SceneView → (Live → Type 0) → (End → Value → Type 0) → ℤ → Type 0
TickKeeps scene T Q now =
    (live : Live) (node : ℕ) → is_clock (types_of scene) node ≡ true → T live → AnswerKeeps T Q node live (ticked live.world node now)

-- a pointing sensor that a viewer's pointer concerns in a world, and where its ray meets the plane of a
-- drag, if it drags the sensor
pub record Aims (scene : SceneView) (w : WorldData) (p : PointerView) (x : Concerned) : Type 0 where
  pub sensor : is_sensor (types_of scene) x.sensor ≡ true
  pub drags : Bool
  pub tracked : x.tracked ≡ (if drags then tracked_at scene w p x.sensor else None)

-- where a viewer points: what is fixed before, of the first world, and what the sensor does at its turn
abbrev pub PointKeeps : SceneView → (Live → Type 0) → (End → Value → Type 0) → PointerView → Type 0
PointKeeps scene T Q p =
    (first : Live) (before : Bool) (live : Live) (x : Concerned) → T first → Aims scene first.world p x → T live
    → AnswerKeeps T Q x.sensor live (met scene live.world x.sensor (pointer_at p before (insides scene first.world.fields p.ray) x.tracked x.sensor))

abbrev pub EventKeeps : SceneView → (Live → Type 0) → (End → Value → Type 0) → ℤ → Cause → Type 0
EventKeeps scene T Q now Clock = TickKeeps scene T Q now
EventKeeps scene T Q now (Pointer p) = ((live : Live) → T live → T (with_button live p)) × PointKeeps scene T Q p

-- ---- the sensors

passing : (p : ℕ → Bool) (xs : List ℕ) → AllByRecursion (λ n. p n ≡ true) (filter p xs)
passing p [] = tt
passing p (x ∷ xs) = by (p x) refl (passing p xs)
  where
    by : (b : Bool) → p x ≡ b → AllByRecursion (λ n. p n ≡ true) (filter p xs) → AllByRecursion (λ n. p n ≡ true) (if b then x ∷ filter p xs else filter p xs)
    by true e h = (e, h)
    by false e h = h

still_all : (P : ℕ → Type 0) (p : ℕ → Bool) (xs : List ℕ) → AllByRecursion P xs → AllByRecursion P (filter p xs)
still_all P p [] a = tt
still_all P p (x ∷ xs) a = by (p x) (still_all P p xs a.1)
  where
    by : (b : Bool) → AllByRecursion P (filter p xs) → AllByRecursion P (if b then x ∷ filter p xs else filter p xs)
    by true h = (a.0, h)
    by false h = h

all_of : (wanted : NodeType → Bool) (types : List NodeType) → AllByRecursion (λ n. is_of wanted types n ≡ true) (numbers_of wanted types)
unfolding numbers_of
all_of wanted types = passing (is_of wanted types) (range_with_len 0 (length types))

module _ (scene : SceneView) (w : WorldData) (p : PointerView) where
  abbrev AllAim : List Concerned → Type 0
  AllAim xs = AllByRecursion (Aims scene w p) xs

  abbrev AllSensors : List ℕ → Type 0
  AllSensors ns = AllByRecursion (λ n. is_sensor (types_of scene) n ≡ true) ns

  either_aim : (some all : List Concerned) → AllAim some → AllAim all → AllAim (or_all some all)
  either_aim [] all a b = b
  either_aim (x ∷ some) all a b = a

  tracking_aim : (ns : List ℕ) → AllSensors ns → AllAim (map (tracking scene w p) ns)
  tracking_aim [] a = tt
  tracking_aim (n ∷ ns) a = (record { sensor = a.0; drags = true; tracked = refl }, tracking_aim ns a.1)

  untracked_aim : (ns : List ℕ) → AllSensors ns → AllAim (map untracked ns)
  untracked_aim [] a = tt
  untracked_aim (n ∷ ns) a = (record { sensor = a.0; drags = false; tracked = refl }, untracked_aim ns a.1)

  all_concerned : AllAim (concerned scene w p)
  unfolding concerned
  all_concerned =
      let sensors : List ℕ = pointing_sensors_of (types_of scene) in
      let all = all_of is_pointing (types_of scene) in
      either_aim (pressed scene w p) (map untracked sensors)
      (tracking_aim (filter (is_pressed w p.who) sensors) (still_all (λ n. is_sensor (types_of scene) n ≡ true) (is_pressed w p.who) sensors all)) (untracked_aim sensors all)

all_push : {X : Type 0} (P : X → Type 0) (xs : List X) (x : X) → AllByRecursion P xs → P x → AllByRecursion P (xs ++ x ∷ [])
all_push P [] x a p = (p, tt)
all_push P (y ∷ xs) x a p = (a.0, all_push P xs x a.1 p)

-- the course of input 0
abbrev pub first_course : SceneView → List Route → CourseView
first_course scene routes =
    let s = started (wiring_of scene routes) (scripts_in scene) in
    settle (wiring_of scene routes) (sent_by_all (wiring_of scene routes) (opening_course scene s.scripts) s.sendings)

module _ (scene : SceneView) (routes : List Route) (T : Live → Type 0) (S : List SlotView → Type 0) (Q R : End → Value → Type 0) (rules : Rules scene routes T S Q R) where
  abbrev wiring : Wiring
  wiring = wiring_of scene routes

  abbrev P : CourseView → Type 0
  P c = Holds T S c

  abbrev Goes : (CourseView → End → Value → CourseView) → Type 0
  Goes go = (c : CourseView) (source : End) (v : Value) → Q source v → P c → P (go c source v)

  -- ---- a cascade

  all_sent : (go : CourseView → End → Value → CourseView) → Goes go → (node : ℕ) (c : CourseView) (replies : List SentEvent) → AllSent Q node replies → P c → P (send_all go node c replies)
  all_sent go keeps node c replies a p =
      fold-keeps P (λ (r : SentEvent). Q (record { node = node; field = r.field }) r.value) (λ (t : CourseView) (r : SentEvent). go t (record { node = node; field = r.field }) r.value)
      (λ t r q k. keeps t (record { node = node; field = r.field }) r.value q k) c replies a p

  abbrev Reaches : CourseView → End → Value → Option Arrival → Type 0
  Reaches c target v at = P (reached_by wiring c target v at).course × AllSent Q target.node (reached_by wiring c target v at).replies

  reaches : (c : CourseView) (target : End) (v : Value) → R target v → P c → (at : Option Arrival) → arrival wiring c target v ≡ at → Reaches c target v at
  reaches c target v come p None h =
      let g = rules.answers c.live target v come p.live in
      (record { live = g.0; scripts = p.scripts }, g.1)
  reaches c target v come p (Some at) h =
      let a : Arrives wiring c.scripts target at = arrives wiring c target v at h in
      let g = rules.calls c.scripts at.number at.call a.fits p.scripts in
      (record { live = p.live; scripts = g.0 }, subst (λ (n : ℕ). AllSent Q n (act (ports_of wiring at.number) at.call at.number c.scripts).replies) a.node g.1)

  delivers : (go : CourseView → End → Value → CourseView) → Goes go → (v : Value) (c : CourseView) (target : End) → R target v → P c → P (deliver go wiring v c target)
  unfolding deliver reached
  delivers go keeps v c target come p =
      let at : Option Arrival = arrival wiring c target v in
      let g = reaches c target v come p at refl in
      all_sent go keeps target.node (reached_by wiring c target v at).course (reached_by wiring c target v at).replies g.1 g.0

  deeper : (depth : ℕ) → Goes (send wiring depth) → (c : CourseView) (source : End) (v : Value) → Q source v → P c → (b : Bool) → has_sent c.live.sent source ≡ b → P (send wiring (suc depth) c source v)
  unfolding send
  deeper depth keeps c source v q p true e = rw e p
  deeper depth keeps c source v q p false e =
      rw e (fold-keeps P (λ (target : End). R target v) (deliver (send wiring depth) wiring v) (λ d target come k. delivers (send wiring depth) keeps v d target come k)
      (recorded c source v) (targets_of routes source) (rules.comes source v q) (record { live = rules.records c.live source v e q p.live; scripts = p.scripts }))

  sends : (depth : ℕ) → Goes (send wiring depth)
  unfolding send
  sends zero c source v q p = p
  sends (suc depth) c source v q p = deeper depth (sends depth) c source v q p (has_sent c.live.sent source) refl

  replies_keep : (node : ℕ) (c : CourseView) (replies : List SentEvent) → AllSent Q node replies → P c → P (send_replies wiring node c replies)
  replies_keep node c replies a p = all_sent (send wiring (outputs_of (shapes_of scene) + 1)) (sends (outputs_of (shapes_of scene) + 1)) node c replies a p

  -- ---- an input

  answered_keeps : (node : ℕ) (c : CourseView) (a : NodeAnswer) → AnswerKeeps T Q node c.live a → P c → P (send_replies wiring node (with_live c (with_answer c.live a)) a.replies)
  answered_keeps node c a g p = replies_keep node (with_live c (with_answer c.live a)) a.replies g.1 (record { live = g.0; scripts = p.scripts })

  ticks : (now : ℤ) → TickKeeps scene T Q now → (c : CourseView) (node : ℕ) → is_clock (types_of scene) node ≡ true → P c → P (tick_node wiring now c node)
  unfolding tick_node
  ticks now keeps c node is p = answered_keeps node c (ticked c.live.world node now) (keeps c.live node is p.live) p

  meets : (p : PointerView) → PointKeeps scene T Q p → (first : Live) (before : Bool) (c : CourseView) (x : Concerned) → T first → Aims scene first.world p x → P c
      → P (point_node scene wiring p before (insides scene first.world.fields p.ray) c x)
  unfolding point_node
  meets p keeps first before c x t aims k =
      answered_keeps x.sensor c (met scene c.live.world x.sensor (pointer_at p before (insides scene first.world.fields p.ray) x.tracked x.sensor)) (keeps first before c.live x t aims k.live) k

  points : (p : PointerView) → ((live : Live) → T live → T (with_button live p)) → PointKeeps scene T Q p → (c : CourseView) → P c → P (point scene wiring c p)
  unfolding point
  points p buttons keeps c k =
      let before : Bool = is_down c.live.world p.who in
      fold-keeps P (Aims scene c.live.world p) (point_node scene wiring p before (insides scene c.live.world.fields p.ray))
      (λ d x aims h. meets p keeps c.live before d x k.live aims h) (with_live c (with_button c.live p)) (concerned scene c.live.world p)
      (all_concerned scene c.live.world p) (record { live = buttons c.live k.live; scripts = k.scripts })

  happens : (now : ℤ) (cause : Cause) → EventKeeps scene T Q now cause → (c : CourseView) → P c → P (happen scene wiring now c cause)
  happens now Clock keeps c p =
      fold-keeps P (λ (n : ℕ). is_clock (types_of scene) n ≡ true) (tick_node wiring now) (λ d n is h. ticks now keeps d n is h) c (clocks_of (types_of scene)) (all_of is_time_sensor (types_of scene)) p
  happens now (Pointer p) keeps c k = points p keeps.0 keeps.1 c k

  -- ---- scripts settle

  settles_one : (c : CourseView) (k : ℕ) → P c → P (settle_one wiring c k)
  unfolding settle_one
  settles_one c k p =
      let a : Acted = act (ports_of wiring k) Settle k c.scripts in
      let g = rules.calls c.scripts k Settle (λ r h. refl) p.scripts in
      replies_keep (node_of wiring k) (record c { scripts = a.scripts; settling = with_settled c.settling k }) a.replies g.1 (record { live = p.live; scripts = g.0 })

  settles_by : (n : ℕ) → ((c : CourseView) → P c → P (settle_up_to wiring n c)) → (c : CourseView) (due : Option ℕ) → next_due c ≡ due → P c → P (settle_up_to wiring (suc n) c)
  unfolding settle_up_to
  settles_by n keeps c None h p = rw h p
  settles_by n keeps c (Some k) h p = rw h (keeps (settle_one wiring c k) (settles_one c k p))

  settles : (n : ℕ) (c : CourseView) → P c → P (settle_up_to wiring n c)
  unfolding settle_up_to
  settles zero c p = p
  settles (suc n) c p = settles_by n (settles n) c (next_due c) refl p

  -- the course of an input
  pub input_keeps : (w : Scripted) (input : StampedView) → EventKeeps scene T Q input.time input.cause → T (begin w.world input) → S (running (kinds_in scene) w.states)
      → P (after_input scene wiring (begun scene w input) input)
  input_keeps w input keeps t s =
      let c : CourseView = happen scene wiring input.time (begun scene w input) input.cause in
      settles c.settling.count c (happens input.time input.cause keeps (begun scene w input) (record { live = t; scripts = s }))

  -- ---- input 0

  abbrev Begins : Started → Type 0
  Begins s = S s.scripts × AllByRecursion (λ (x : SendingView). AllSent Q x.node x.replies) s.sendings

  starts_one : (s : Started) (k : ℕ) → Begins s → Begins (start_one wiring s k)
  starts_one s k b =
      let a : Acted = act (ports_of wiring k) Initialize k s.scripts in
      let g = rules.calls s.scripts k Initialize (λ r h. refl) b.0 in
      (g.0, all_push (λ (x : SendingView). AllSent Q x.node x.replies) s.sendings (record { node = node_of wiring k; replies = a.replies }) b.1 g.1)

  starts : (scripts : List SlotView) → S scripts → Begins (started wiring scripts)
  unfolding started
  starts scripts s =
      fold-keeps Begins (λ (k : ℕ). Unit {0}) (start_one wiring) (λ b k q h. starts_one b k h) (record { scripts = scripts; sendings = [] })
      (range_with_len 0 (length scripts)) (all_free (range_with_len 0 (length scripts))) (s, tt)

  all_send : (c : CourseView) (sendings : List SendingView) → AllByRecursion (λ (x : SendingView). AllSent Q x.node x.replies) sendings → P c → P (sent_by_all wiring c sendings)
  all_send c sendings a p =
      fold-keeps P (λ (x : SendingView). AllSent Q x.node x.replies) (λ (d : CourseView) (x : SendingView). send_replies wiring x.node d x.replies)
      (λ d x q k. replies_keep x.node d x.replies q k) c sendings a p

  pub opening_keeps : T (record { world = untold scene; sent = [] }) → S (scripts_in scene) → P (first_course scene routes)
  opening_keeps t s =
      let b : Started = started wiring (scripts_in scene) in
      let g = starts (scripts_in scene) s in
      let c : CourseView = sent_by_all wiring (opening_course scene b.scripts) b.sendings in
      settles c.settling.count c (all_send (opening_course scene b.scripts) b.sendings g.1 (record { live = t; scripts = g.0 }))

pub opening_is : (scene : SceneView) (routes : List Route) → opening scene routes ≡ ended (first_course scene routes)
unfolding opening
opening_is scene routes = refl
