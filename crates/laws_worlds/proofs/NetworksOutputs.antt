-- A script that runs sends by outputs of the scene.
use Rattle.std.proofs.Common.{◌≡◌, ℕ, zero, suc, ◌<◌, ℤ, true, false, List, [], ◌∷◌, length, map, nat_lt, Option, Some, None, IsSomeAnd, slice_get, refl, sym, subst, arith, ltb-true}
use Rattle.std.specs.Prelude.{slice_index_or}
use Rattle.std.specs.Option.{option_map_or}
use Rattle.byte_codec.proofs.Laws.{both}
use Rattle.x3d_values.specs.declared.field_type.FieldType.{FieldType}
use Rattle.x3d_values.specs.declared.script.Kind.{Kind}
use Rattle.x3d_values.specs.Access.{sends}
use Rattle.x3d_values.specs.Tables.{FieldRowView}
use Rattle.react_core.specs.Access.{is_sender}
use Rattle.scene_core.specs.declared.scene.End.{End}
use Rattle.scene_core.specs.declared.scene.Route.{Route}
use Rattle.scene_core.specs.Scene.{SceneView, rows_at, shapes_of}
use Rattle.scene_core.specs.Shape.{Shape, rows_of}
use Rattle.script_host.specs.Behaviour.{Call}
use Rattle.script_host.specs.Hosting.{SlotView, answer_of}
use Rattle.script_host.specs.Interface.{outputs}
use Rattle.script_host.specs.Outputs.{leave_by_outputs}
use Rattle.script_slots.specs.declared.reply.Reply as host
use Rattle.script_host.proofs.OutputLemmas.{sends_by_outputs}
use Rattle.script_running.specs.Acting.{act, acting, kinds_of}
use Rattle.script_running.specs.Ports.{PortsView, reply_of}
use Rattle.script_running.proofs.CallLemmas.{kinds_stand}
use Rattle.script_running.specs.Runs.{run_of}
use Rattle.script_running.specs.Scripts.{script_list}
use Rattle.script_running.specs.declared.run.Run.{Run}
use Rattle.laws_worlds.specs.Nodes.{RunsAll, Sends}
use Rattle.laws_worlds.proofs.Outputs.{all_outputs_typed}
use Rattle.cascade_world.specs.Access.{is_output}
use Rattle.cascade_core.specs.Course.{no_ports, node_of, wiring_of, ports_of}
use Rattle.cascade_core.specs.Outputs.{is_scene_output}
use Rattle.cascade_core.specs.Scripts.{kinds_in, running, scripts_in}
use Rattle.cascade_core.proofs.SceneOutputs.{one_output}
use Rattle.laws_worlds.proofs.Casts.{Asked, asked_at, map_at, run_at}
use Rattle.laws_worlds.proofs.Walks.{ActKeeps, AllSent}

-- ---- the scripts of a course

-- each is of the kind that the scene asks for at its number, though there may be fewer of them
abbrev pub AreAmong : SceneView → List SlotView → Type 0
AreAmong scene scripts = (k : ℕ) (kind : Kind) → slice_get (kinds_of scripts) k ≡ Some kind → slice_get (kinds_in scene) k ≡ Some kind

still_running : (kinds : List Kind) (states : List (List ℤ)) (k : ℕ) (kind : Kind) → slice_get (kinds_of (running kinds states)) k ≡ Some kind → slice_get kinds k ≡ Some kind
still_running [] states k kind h = absurd cc
still_running (own ∷ kinds) [] k kind h = absurd cc
still_running (own ∷ kinds) (state ∷ states) zero kind h = h
still_running (own ∷ kinds) (state ∷ states) (suc k) kind h = still_running kinds states k kind h

pub running_among : (scene : SceneView) (states : List (List ℤ)) → AreAmong scene (running (kinds_in scene) states)
running_among scene states k kind h = still_running (kinds_in scene) states k kind h

pub all_among : (scene : SceneView) → AreAmong scene (scripts_in scene)
all_among scene k kind h = h

-- ---- what a script sends

abbrev pub IsOutput : SceneView → End → Type 0
IsOutput scene source = is_scene_output (shapes_of scene) source ≡ true

there_is : {X : Type 0} (xs : List X) (i : ℕ) → i < length xs → (x : X) × (slice_get xs i ≡ Some x)
there_is [] i h = absurd (omega arith)
there_is (x ∷ xs) zero h = (x, refl)
there_is (x ∷ xs) (suc i) h = there_is xs i (omega (arith, h))

-- a field of a node that sends is an output of the scene
sent_output : (scene : SceneView) (node field : ℕ) (t : FieldType) → Sends (rows_at scene node) field t → IsOutput scene (record { node = node; field = field })
sent_output scene node field t h = by_shape (slice_get (shapes_of scene) node) refl h
  where
    by_row : (shape : Shape) (o : Option FieldRowView) → slice_get (rows_of shape) field ≡ o → IsSomeAnd o (λ row. (sends row.access ≡ true) × (row.field_type ≡ t)) → is_output shape field ≡ true
    by_row shape None e m = absurd m
    by_row shape (Some row) e m = subst (λ (o : Option FieldRowView). option_map_or (λ (r : FieldRowView). is_sender r.access) o false ≡ true) (sym e) m.0

    by_shape : (o : Option Shape) → slice_get (shapes_of scene) node ≡ o → Sends (option_map_or rows_of o []) field t → IsOutput scene (record { node = node; field = field })
    by_shape None e m = absurd m
    by_shape (Some shape) e m = one_output (shapes_of scene) node shape field e (by_row shape (slice_get (rows_of shape) field) refl m)

module _ (scene : SceneView) (k : ℕ) (kind : Kind) (a : Asked (script_list scene) k kind) where
  all_sent_by : (rs : List host.Reply) → leave_by_outputs kind rs ≡ true → AllSent (λ source v. IsOutput scene source) a.asked.node (map (reply_of kind (run_of scene a.asked).ports) rs)
  all_sent_by [] all = tt
  all_sent_by (r ∷ rs) all =
      let b = both (nat_lt r.output (length (outputs kind))) (leave_by_outputs kind rs) all in
      let e = there_is (outputs kind) r.output (ltb-true r.output (length (outputs kind)) b.0) in (
        sent_output scene a.asked.node (slice_index_or (run_of scene a.asked).ports.outputs r.output 0) e.0.field_type
            (all_outputs_typed scene k a.asked kind r.output e.0 a.here a.of a.fits e.1),
        all_sent_by rs b.1,
      )

module _ (scene : SceneView) (routes : List Route) (all : RunsAll scene) where
  abbrev plan_node : Option Run → ℕ
  plan_node o = option_map_or (λ (run : Run). run.node) o 0

  abbrev plan_ports : Option Run → PortsView
  plan_ports o = option_map_or (λ (run : Run). run.ports) o no_ports

  pub calls_send : (scripts : List SlotView) (k : ℕ) (call : Call) → AreAmong scene scripts →
      ActKeeps (AreAmong scene) (λ source v. IsOutput scene source) (node_of (wiring_of scene routes) k) (act (ports_of (wiring_of scene routes) k) call k scripts)
  unfolding act
  calls_send scripts k call among = (
    subst (λ (kinds : List Kind). (j : ℕ) (kind : Kind) → slice_get kinds j ≡ Some kind → slice_get (kinds_in scene) j ≡ Some kind)
        (sym (kinds_stand (ports_of (wiring_of scene routes) k) call k scripts)) among,
    by_place (slice_get scripts k) refl,
  )
    where
      by_place : (place : Option SlotView) → slice_get scripts k ≡ place →
          AllSent (λ source v. IsOutput scene source) (node_of (wiring_of scene routes) k) (acting (ports_of (wiring_of scene routes) k) call k scripts place).replies
      by_place None h = tt
      by_place (Some r) h =
          let a = asked_at scene k r.kind all (among k r.kind (map_at (λ (x : SlotView). x.kind) scripts k r h)) in
          subst (λ (o : Option Run). AllSent (λ source v. IsOutput scene source) (plan_node o) (map (reply_of r.kind (plan_ports o)) (answer_of call r).replies)) (sym (run_at scene k a.asked a.here))
          (all_sent_by scene k r.kind a (answer_of call r).replies (sends_by_outputs r.kind call r.state))
