-- What scripts keep and send is in range.
use Rattle.std.proofs.Common.{◌≡◌, ℕ, zero, suc, ◌<◌, ℤ, Bool, true, false, List, [], ◌∷◌, length, map, Option, Some, None, IsSomeAnd, is_none, slice_get, slice_set, refl, sym, ap, subst, ◌∙◌, arith}
use Rattle.std.specs.Prelude.{slice_index_or}
use Rattle.std.specs.List.{list_all}
use Rattle.std.specs.Option.{option_and_then, option_map_or}
use Rattle.byte_codec.proofs.Laws.{both, and_true}
use Rattle.x3d_values.specs.declared.field_type.FieldType.{FieldType}
use Rattle.x3d_values.specs.declared.script.Kind.{Kind}
use Rattle.x3d_values.specs.Access.{sends}
use Rattle.x3d_values.specs.Tables.{FieldRowView}
use Rattle.snapshot_codec.specs.Trace.{typed_fits}
use Rattle.snapshot_codec.specs.Values.{value_fits}
use Rattle.scene_core.specs.declared.scene.Route.{Route}
use Rattle.scene_core.specs.Scene.{SceneView, rows_at, shapes_of}
use Rattle.script_host.specs.Behaviour.{Call}
use Rattle.script_host.specs.Hosting.{SlotView, after_call, answer_of}
use Rattle.script_host.specs.Interface.{outputs}
use Rattle.script_host.specs.Pairs.{PairAt}
use Rattle.script_host.specs.Restoring.{AreStates, IsStateOf}
use Rattle.script_host.specs.States.{state_fault}
use Rattle.script_slots.specs.declared.fault.StateFault.{StateFault}
use Rattle.script_slots.specs.declared.reply.Reply as host
use Rattle.script_running.specs.Acting.{act, acting, kinds_of}
use Rattle.script_running.specs.Ports.{PortsView, reply_of, value_from}
use Rattle.script_running.specs.Values.{value_of}
use Rattle.script_running.proofs.CallLemmas.{kinds_stand}
use Rattle.script_running.specs.Runs.{run_of}
use Rattle.script_running.specs.Scripts.{script_list}
use Rattle.script_running.specs.declared.run.Run.{Run}
use Rattle.laws_worlds.specs.Calls.{AnswerFits, reply_fits}
use Rattle.laws_worlds.specs.Nodes.{RunsAll}
use Rattle.laws_worlds.proofs.Behaviours.{all_calls_fit}
use Rattle.laws_worlds.proofs.Outputs.{all_outputs_typed}
use Rattle.laws_worlds.proofs.Running.{one_of}
use Rattle.cascade_core.specs.Course.{no_ports, node_of, wiring_of, ports_of}
use Rattle.cascade_core.specs.Installing.{StatesFit}
use Rattle.cascade_core.specs.Scripts.{kinds_in, running, scripts_in, states_of}
use Rattle.cascade_world.specs.Fits.{sent_type, output_type}
use Rattle.laws_worlds.specs.Fits.{StartsFit}
use Rattle.laws_worlds.proofs.Casts.{Asked, are_of, asked_at, run_at}
use Rattle.laws_worlds.proofs.Sending.{Leaves}
use Rattle.laws_worlds.proofs.Walks.{ActKeeps, AllSent, Takes}

-- ---- states

-- a script is in a state of its kind
abbrev pub in_state : SlotView → Bool
in_state r = is_none (state_fault r.kind r.state)

-- the scripts are those of the scene, each in a state of its kind
pub record InStates (scene : SceneView) (scripts : List SlotView) : Type 0 where
  pub kinds : kinds_of scripts ≡ kinds_in scene
  pub states : list_all in_state scripts ≡ true

no_fault : (o : Option StateFault) → is_none o ≡ true → o ≡ None
no_fault None h = refl
no_fault (Some f) h = absurd cc

more_states : (r : SlotView) (rs : List SlotView) (state : List ℤ) (states : List (List ℤ)) → AreStates (r ∷ rs) (state ∷ states) → AreStates rs states
more_states r rs state states a = record { count = omega (arith, a.count); fit = λ j l. a.fit (suc j) (omega (arith, l)) }

-- scripts that are running in states that are theirs
running_each : (rs : List SlotView) (states : List (List ℤ)) → AreStates rs states
    → (kinds_of (running (kinds_of rs) states) ≡ kinds_of rs) × (list_all in_state (running (kinds_of rs) states) ≡ true)
running_each [] states a = (refl, refl)
running_each (r ∷ rs) [] a = absurd (omega (arith, a.count))
running_each (r ∷ rs) (state ∷ states) a =
    let rest = running_each rs states (more_states r rs state states a) in
    let first : state_fault r.kind state ≡ None = a.fit 0 (omega arith) in
    (ap (λ (kinds : List Kind). r.kind ∷ kinds) rest.0, and_true _ _ (ap is_none first) rest.1)

pub running_in : (scene : SceneView) (states : List (List ℤ)) → StatesFit scene states → InStates scene (running (kinds_in scene) states)
running_in scene states a = let r = running_each (scripts_in scene) states a in record { kinds = r.0; states = r.1 }

starts_each : (rs : List SlotView) → AreStates rs (states_of rs) → list_all in_state rs ≡ true
starts_each [] a = refl
starts_each (r ∷ rs) a =
    let first : state_fault r.kind r.state ≡ None = a.fit 0 (omega arith) in
    and_true _ _ (ap is_none first) (starts_each rs (more_states r rs r.state (states_of rs) a))

pub starts_in : (scene : SceneView) → StartsFit scene → InStates scene (scripts_in scene)
starts_in scene a = record { kinds = refl; states = starts_each (scripts_in scene) a }

-- the states of scripts that are in states of these kinds
pub states_are : (rs scripts : List SlotView) → kinds_of scripts ≡ kinds_of rs → list_all in_state scripts ≡ true → AreStates rs (states_of scripts)
states_are [] [] same all = record { count = refl; fit = λ j l. absurd (omega (arith, l)) }
states_are [] (x ∷ scripts) same all = absurd cc
states_are (r ∷ rs) [] same all = absurd cc
states_are (r ∷ rs) (x ∷ scripts) same all =
    let b = both (in_state x) (list_all in_state scripts) all in
    let kind : x.kind ≡ r.kind = cc in
    let kinds : kinds_of scripts ≡ kinds_of rs = cc in
    let rest = states_are rs scripts kinds b.1 in
    let first : state_fault r.kind x.state ≡ None = subst (λ (k : Kind). state_fault k x.state ≡ None) kind (no_fault (state_fault x.kind x.state) b.0) in
    record { count = omega (arith, rest.count); fit = λ j l. at rest first j l }
  where
    at : AreStates rs (states_of scripts) → state_fault r.kind x.state ≡ None → (j : ℕ) → j < length (r ∷ rs) → PairAt IsStateOf (r ∷ rs) (states_of (x ∷ scripts)) j
    at rest first zero l = first
    at rest first (suc j) l = rest.fit j (omega (arith, l))

set_all : {X : Type 0} (p : X → Bool) (xs : List X) (k : ℕ) (x : X) → list_all p xs ≡ true → p x ≡ true → list_all p (slice_set xs k x) ≡ true
set_all p [] k x all h = refl
set_all p (y ∷ xs) zero x all h = and_true _ _ h (both (p y) (list_all p xs) all).1
set_all p (y ∷ xs) (suc k) x all h = let b = both (p y) (list_all p xs) all in and_true _ _ b.0 (set_all p xs k x b.1 h)

-- ---- what a script sends

sent_as : (o : Option FieldRowView) (t : FieldType) → IsSomeAnd o (λ row. (sends row.access ≡ true) × (row.field_type ≡ t)) → option_and_then sent_type o ≡ Some t
sent_as None t h = absurd h
sent_as (Some row) t h = rw (h.0) (ap (λ (k : FieldType). Some k) h.1)

module _ (scene : SceneView) (k : ℕ) (kind : Kind) (a : Asked (script_list scene) k kind) where
  -- by an output of its kind goes what fits the output
  leaves_by : (ports : PortsView) → ports ≡ (run_of scene a.asked).ports → (r : host.Reply) (o : Option FieldRowView) → slice_get (outputs kind) r.output ≡ o →
      option_map_or (λ (e : FieldRowView). value_fits e.field_type (value_of e.field_type r.numbers)) o false ≡ true →
      Leaves (shapes_of scene) (record { node = a.asked.node; field = slice_index_or ports.outputs r.output 0 }) (value_from o r.numbers)
  leaves_by ports same r None e f = absurd cc
  leaves_by ports same r (Some e) at f =
      let out = all_outputs_typed scene k a.asked kind r.output e a.here a.of a.fits at in
      let typed : output_type (shapes_of scene) a.asked.node (slice_index_or (run_of scene a.asked).ports.outputs r.output 0) ≡ Some e.field_type =
      sent_as (slice_get (rows_at scene a.asked.node) (slice_index_or (run_of scene a.asked).ports.outputs r.output 0)) e.field_type out in
      subst (λ (w : PortsView). Leaves (shapes_of scene) (record { node = a.asked.node; field = slice_index_or w.outputs r.output 0 }) (value_of e.field_type r.numbers)) (sym same)
      (subst (λ (t : Option FieldType). typed_fits t (value_of e.field_type r.numbers) ≡ true) (sym typed) f)

  all_leave_by : (rs : List host.Reply) → list_all (reply_fits kind) rs ≡ true → AllSent (Leaves (shapes_of scene)) a.asked.node (map (reply_of kind (run_of scene a.asked).ports) rs)
  all_leave_by [] all = tt
  all_leave_by (r ∷ rs) all =
      let b = both (reply_fits kind r) (list_all (reply_fits kind) rs) all in
      (leaves_by (run_of scene a.asked).ports refl r (slice_get (outputs kind) r.output) refl b.0, all_leave_by rs b.1)

module _ (scene : SceneView) (routes : List Route) (all : RunsAll scene) where
  abbrev plan_node : Option Run → ℕ
  plan_node o = option_map_or (λ (run : Run). run.node) o 0

  abbrev plan_ports : Option Run → PortsView
  plan_ports o = option_map_or (λ (run : Run). run.ports) o no_ports

  -- a script that is called keeps the range of its state, and sends what fits its node's outputs
  pub calls_fit : (scripts : List SlotView) (k : ℕ) (call : Call) → Takes scripts k call → InStates scene scripts →
      ActKeeps (InStates scene) (Leaves (shapes_of scene)) (node_of (wiring_of scene routes) k) (act (ports_of (wiring_of scene routes) k) call k scripts)
  unfolding act
  calls_fit scripts k call takes s = by_place (slice_get scripts k) refl
    where
      by_place : (place : Option SlotView) → slice_get scripts k ≡ place →
          ActKeeps (InStates scene) (Leaves (shapes_of scene)) (node_of (wiring_of scene routes) k) (acting (ports_of (wiring_of scene routes) k) call k scripts place)
      by_place None h = (s, tt)
      by_place (Some r) h =
          let a = asked_at scene k r.kind all (are_of scene scripts s.kinds k r h) in
          let in_its : state_fault r.kind r.state ≡ None = no_fault (state_fault r.kind r.state) (one_of in_state scripts k r s.states h) in
          let fit : AnswerFits r.kind (answer_of call r) = all_calls_fit r.kind call r.state in_its (takes r h) in
          let kinds : kinds_of (slice_set scripts k (after_call call r)) ≡ kinds_in scene =
          subst (λ (o : Option SlotView). kinds_of (acting (ports_of (wiring_of scene routes) k) call k scripts o).scripts ≡ kinds_in scene) h
          (kinds_stand (ports_of (wiring_of scene routes) k) call k scripts ∙ s.kinds) in (
            record { kinds = kinds; states = set_all in_state scripts k (after_call call r) s.states (ap is_none fit.in_state) },
            subst (λ (o : Option Run). AllSent (Leaves (shapes_of scene)) (plan_node o) (map (reply_of r.kind (plan_ports o)) (answer_of call r).replies)) (sym (run_at scene k a.asked a.here))
                (all_leave_by scene k r.kind a (answer_of call r).replies fit.in_replies),
          )
