-- The scripts that were attached for a scene send by outputs of its nodes.
use Rattle.std.proofs.Common.{◌≡◌, ℕ, ◌<◌, Bool, true, false, ◌&&◌, List, [], ◌∷◌, Option, Some, None, zero, suc, refl, ap, sym, ◌∙◌, arith, length, map}
use Rattle.std.specs.Prelude.{IsSomeAnd, slice_get}
use Rattle.std.specs.List.{list_all}
use Rattle.std.specs.Option.{option_map_or}
use Rattle.std.proofs.lemmas.List.{length-map}
use Rattle.x3d_values.specs.declared.script.Kind.{Kind}
use Rattle.x3d_values.specs.declared.script.ScriptSpec.{ScriptSpec}
use Rattle.scene_core.specs.declared.scene.Route.{Route}
use Rattle.scene_core.specs.Scene.{SceneView, rows_at, shapes_of}
use Rattle.scene_core.specs.Shape.{Shape, rows_of}
use Rattle.script_running.specs.declared.run.Run.{Run}
use Rattle.script_running.specs.Laws.{is_sent_by}
use Rattle.script_running.specs.Runs.{number_in, run_of}
use Rattle.script_running.specs.Scripts.{script_list}
use Rattle.script_running.proofs.Outputs.{send_by_outputs}
use Rattle.script_host.specs.Attaching.{Fits, Meets}
use Rattle.script_host.specs.Hosting.{SlotView}
use Rattle.script_host.specs.Interface.{outputs}
use Rattle.script_running.specs.Acting.{kinds_of}
use Rattle.cascade_core.specs.Course.{no_ports}
use Rattle.cascade_core.specs.Outputs.{is_scene_output}
use Rattle.cascade_core.specs.Sound.{IsSound, are_outputs}
use Rattle.cascade_core.proofs.SceneOutputs.{one_output}

both : (x y : Bool) → (x && y) ≡ true → (x ≡ true) × (y ≡ true)
both true true h = (refl, refl)
both true false h = (refl, h)
both false y h = cc

-- a field by which a node of the scene sends is an output of the scene
sent-output : (scene : SceneView) (node field : ℕ) → is_sent_by (rows_at scene node) field ≡ true → is_scene_output (shapes_of scene) (record { node = node; field = field }) ≡ true
sent-output scene node field = by-shape (slice_get (shapes_of scene) node) refl
  where
    by-shape : (found : Option Shape) → slice_get (shapes_of scene) node ≡ found → is_sent_by (option_map_or rows_of found []) field ≡ true →
        is_scene_output (shapes_of scene) (record { node = node; field = field }) ≡ true
    by-shape None at h = cc
    by-shape (Some shape) at h = one_output (shapes_of scene) node shape field at h

sent-outputs : (scene : SceneView) (node : ℕ) (fields : List ℕ) → list_all (is_sent_by (rows_at scene node)) fields ≡ true → are_outputs (shapes_of scene) node fields ≡ true
sent-outputs scene node [] h = refl
sent-outputs scene node (field ∷ fields) h =
    let (one, rest) = both (is_sent_by (rows_at scene node) field) (list_all (is_sent_by (rows_at scene node)) fields) h in
    rw (sent-output scene node field one) (sent-outputs scene node fields rest)

-- what is at a place of a list of kinds is the kind of a script
kind-of-script : (rs : List SlotView) (k : ℕ) (kind : Kind) → slice_get (kinds_of rs) k ≡ Some kind → (r : SlotView) × (slice_get rs k ≡ Some r) × (r.kind ≡ kind)
kind-of-script [] k kind h = cc
kind-of-script (r ∷ rs) zero kind h = (r, refl, cc)
kind-of-script (r ∷ rs) (suc k) kind h = kind-of-script rs k kind h

below-length : {X : Type 0} (xs : List X) (k : ℕ) (x : X) → slice_get xs k ≡ Some x → k < length xs
below-length [] k x h = cc
below-length (y ∷ xs) zero x h = omega arith
below-length (y ∷ xs) (suc k) x h = omega (arith, below-length xs k x h)

mapped-at : {X Y : Type 0} (f : X → Y) (xs : List X) (k : ℕ) (x : X) → slice_get xs k ≡ Some x → slice_get (map f xs) k ≡ Some (f x)
mapped-at f [] k x h = cc
mapped-at f (y ∷ xs) zero x h = let same : y ≡ x = cc in ap (λ z. Some (f z)) same
mapped-at f (y ∷ xs) (suc k) x h = mapped-at f xs k x h

-- the script that the scene asks for at a place
record Asked (scene : SceneView) (k : ℕ) (kind : Kind) : Type 0 where
  asked : ScriptSpec
  at : slice_get (script_list scene) k ≡ Some asked
  of : asked.kind ≡ Some kind
  fits : asked.fits ≡ true

asked-at : (scene : SceneView) (rs : List SlotView) → Fits (script_list scene) rs → (k : ℕ) (kind : Kind) → slice_get (kinds_of rs) k ≡ Some kind → Asked scene k kind
asked-at scene rs fits k kind h =
    let (r, here, is) = kind-of-script rs k kind h in
    let below : k < length (script_list scene) = omega (arith, below-length rs k r here, fits.count) in
    by-spec (slice_get (script_list scene) k) refl r here is (fits.meet k below)
  where
    by-box : (asked : ScriptSpec) → slice_get (script_list scene) k ≡ Some asked → (r : SlotView) → r.kind ≡ kind → (box : Option SlotView) → box ≡ Some r →
        IsSomeAnd box (λ y. Meets asked y) → Asked scene k kind
    by-box asked at r is None there m = absurd m
    by-box asked at r is (Some y) there m =
        let same : y ≡ r = cc in
        record { asked = asked; at = at; of = m.kind ∙ ap (λ (z : SlotView). Some z.kind) same ∙ ap Some is; fits = m.interface }

    by-spec : (found : Option ScriptSpec) → slice_get (script_list scene) k ≡ found → (r : SlotView) → slice_get rs k ≡ Some r → r.kind ≡ kind →
        IsSomeAnd found (λ x. IsSomeAnd (slice_get rs k) (λ y. Meets x y)) → Asked scene k kind
    by-spec None at r here is m = absurd m
    by-spec (Some asked) at r here is m = by-box asked at r is (slice_get rs k) here m

-- the script that is run there
run-at : (scene : SceneView) (runs : List Run) → runs ≡ map (run_of scene) (script_list scene) → (k : ℕ) (kind : Kind) (a : Asked scene k kind) → slice_get runs k ≡ Some (run_of scene a.asked)
run-at scene runs are k kind a = ap (λ (xs : List Run). slice_get xs k) are ∙ mapped-at (run_of scene) (script_list scene) k a.asked a.at

pub sound_scene : (scene : SceneView) (routes : List Route) (runs : List Run) → runs ≡ map (run_of scene) (script_list scene) → (rs : List SlotView) → Fits (script_list scene) rs →
    IsSound (record { shapes = shapes_of scene; routes = routes; runs = runs }) (kinds_of rs)
sound_scene scene routes runs are rs fits = record {
  many = ap length are ∙ length-map (script_list scene) (run_of scene) ∙ fits.count ∙ sym (length-map rs (λ (r : SlotView). r.kind));
  count = λ k kind h. counted k kind (asked-at scene rs fits k kind h);
  sends = λ k kind h. sent k kind (asked-at scene rs fits k kind h);
}
  where
    counted : (k : ℕ) (kind : Kind) → Asked scene k kind → length (option_map_or (λ (run : Run). run.ports) (slice_get runs k) no_ports).outputs ≡ length (outputs kind)
    counted k kind a = rw (run-at scene runs are k kind a, a.of) (length-map (outputs kind) (number_in (rows_at scene a.asked.node)))

    sent : (k : ℕ) (kind : Kind) → Asked scene k kind →
        are_outputs (shapes_of scene) (option_map_or (λ (run : Run). run.node) (slice_get runs k) 0) (option_map_or (λ (run : Run). run.ports) (slice_get runs k) no_ports).outputs ≡ true
    sent k kind a = rw (run-at scene runs are k kind a) (sent-outputs scene a.asked.node (run_of scene a.asked).ports.outputs (send_by_outputs scene k a.asked kind a.at a.of a.fits))
