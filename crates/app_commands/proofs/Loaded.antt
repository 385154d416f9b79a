-- Stages of a text's scene have loaded that text, and boxes were attached to its scripts.
use Rattle.std.proofs.Common.{◌≡◌, ℕ, ◌+◌, Bool, true, false, List, [], ◌∷◌, replicate, refl, ap, ◌∙◌, subst}
use Rattle.std.specs.Prelude.{Option, None, Some, Result, Ok, Err, is_some, if◌then◌else◌}
use Rattle.std.specs.List.{list_all}
use Rattle.std.specs.Option.{option_map, option_or}
use Rattle.std.proofs.lemmas.Bool.{and_from}
use Rattle.x3d_values.specs.declared.script.Kind.{Kind}
use Rattle.x3d_values.specs.declared.script.ScriptSpec.{ScriptSpec}
use Rattle.script_host.specs.declared.fault.AttachFault.{AttachFault}
use Rattle.script_boxes.specs.Refused.{scripts_fault, unknown_at, unknown_from, unfit_at, unfit_from}
use Rattle.script_running.specs.Scripts.{script_list}
use Rattle.laws_worlds.specs.Nodes.{RunsAll, runs}
use Rattle.classic_tree.specs.declared.tree.Document.{Document}
use Rattle.classic_text.specs.Reading.{read_text}
use Rattle.classic_text.specs.declared.fault.ReadFault.{ReadFault}
use Rattle.proto_flat.specs.declared.flat.Flat.{Flat}
use Rattle.proto_flat.specs.declared.fault.ExpandFault.{ExpandFault}
use Rattle.proto_meaning.specs.Flat.{flat}
use Rattle.scene_core.specs.Building.{scene_of}
use Rattle.scene_core.specs.Scene.{SceneView}
use Rattle.scene_core.specs.declared.scene.Route.{Route}
use Rattle.scene_core.specs.declared.fault.SceneFault.{SceneFault}
use Rattle.route_core.specs.Resolved.{resolved}
use Rattle.route_core.specs.declared.fault.RouteFault.{RouteFault}
use Rattle.app_jobs.specs.declared.fault.JobFault.{JobFault}
use Rattle.app_jobs.specs.declared.fault.JobFault.TheVariants.{Attach}
use Rattle.app_jobs.specs.Faults.{of_read, of_expand, of_scene, of_route}
use Rattle.app_program.specs.Opening.{next, same, good, built, routed, with_routes, flattened, opened}
use Rattle.app_program.specs.declared.open.OpenedScene.{OpenedScene}
use Rattle.laws_worlds.specs.Opened.{IsOpened}
use Rattle.share_rehearsal.specs.Loaded.{AreLoaded}
use Rattle.app_program.specs.Stages.{staged_scene}
use Rattle.app_commands.specs.Stages.{fresh, scripted, unless_refused}
use Rattle.app_commands.proofs.Staging.{are_of, same_ok}

-- ---- scripts that are taken run

first_none : (x y : Option AttachFault) → option_or x y ≡ None → (x ≡ None) × (y ≡ None)
first_none None y e = (refl, e)
first_none (Some f) y e = absurd cc

known : (k : ℕ) (o : Option Kind) → unknown_at k o ≡ None → is_some o ≡ true
known k None e = absurd cc
known k (Some kind) e = refl

fit : (b : Bool) (x : Option AttachFault) (f : AttachFault) → (if b then x else Some f) ≡ None → b ≡ true
fit true x f e = refl
fit false x f e = absurd cc

fits_of : (k : ℕ) (asked : ScriptSpec) → unfit_at k asked ≡ None → asked.fits ≡ true
fits_of k asked e = fit asked.fits _ _ e

all_run : (k j : ℕ) (asked : List ScriptSpec) → unknown_from k asked ≡ None → unfit_from j asked ≡ None → list_all runs asked ≡ true
all_run k j [] e f = refl
all_run k j (a ∷ others) e f =
    let p = first_none (unknown_at k a.kind) (unknown_from (k + 1) others) e in
    let q = first_none (unfit_at j a) (unfit_from (j + 1) others) f in
    and_from _ _ (and_from _ _ (known k a.kind p.0) (fits_of j a q.0)) (all_run (k + 1) (j + 1) others p.1 q.1)

runs_all : (s : SceneView) → scripts_fault (script_list s) ≡ None → RunsAll s
runs_all s e =
    let p = first_none (unknown_from 0 (script_list s)) (unfit_from 0 (script_list s)) e in
    all_run 0 0 (script_list s) p.0 p.1

-- ---- what a text was opened as

found_routes : (f : Flat) (s : SceneView) (r : Result (List Route) RouteFault) (o : OpenedScene) → resolved f s ≡ r
    → next of_route r (with_routes s) ≡ Ok o → (s ≡ o.scene) × (resolved f s ≡ Ok o.routes)
found_routes f s (Ok routes) o is e =
    let made : OpenedScene = record { scene = s; routes = routes } in
    let whole : made ≡ o = same_ok {E = JobFault} made o e in
    (ap (λ (z : OpenedScene). z.scene) whole, is ∙ ap (λ (z : OpenedScene). let r : Result (List Route) RouteFault = Ok z.routes in r) whole)
found_routes f s (Err fault) o is e = absurd cc

found_scene : (f : Flat) (r : Result SceneView SceneFault) (o : OpenedScene) → scene_of f ≡ r
    → next of_scene r (routed f) ≡ Ok o → (scene_of f ≡ Ok o.scene) × (resolved f o.scene ≡ Ok o.routes)
found_scene f (Ok s) o is e =
    let g = found_routes f s (resolved f s) o refl e in (
      is ∙ ap (λ (z : SceneView). let r : Result SceneView SceneFault = Ok z in r) g.0,
      subst (λ (z : SceneView). resolved f z ≡ Ok o.routes) g.0 g.1,
    )
found_scene f (Err fault) o is e = absurd cc

found_flat : (text : List ℕ) (d : Document) (r : Result Flat ExpandFault) (o : OpenedScene) → read_text text ≡ Ok d → flat d ≡ r
    → next same (next of_expand r good) built ≡ Ok o → (f : Flat) × IsOpened text f o.scene o.routes
found_flat text d (Ok f) o read is e =
    let g = found_scene f (scene_of f) o refl e in
    (f, record { document = d; read = read; put_in = is; is_scene = g.0; are_routes = g.1 })
found_flat text d (Err fault) o read is e = absurd cc

found : (text : List ℕ) (r : Result Document ReadFault) (o : OpenedScene) → read_text text ≡ r
    → next same (next of_read r (λ d. next of_expand (flat d) good)) built ≡ Ok o → (f : Flat) × IsOpened text f o.scene o.routes
found text (Ok d) o read e = found_flat text d (flat d) o read refl e
found text (Err fault) o read e = absurd cc

is_opened : (text : List ℕ) (o : OpenedScene) → opened text ≡ Ok o → (f : Flat) × IsOpened text f o.scene o.routes
unfolding opened flattened
is_opened text o e = found text (read_text text) o refl e

-- ---- what a text was staged as

taken : (p o : OpenedScene) (f : Option AttachFault) → unless_refused p (option_map (λ (fault : AttachFault). Attach fault) f) ≡ Ok o → (p ≡ o) × (f ≡ None)
taken p o None e = (same_ok {E = JobFault} p o e, refl)
taken p o (Some f) e = absurd cc

opened_as : (text : List ℕ) (r : Result OpenedScene JobFault) (o : OpenedScene) → opened text ≡ r → next same r scripted ≡ Ok o
    → (opened text ≡ Ok o) × (scripts_fault (script_list o.scene) ≡ None)
opened_as text (Ok p) o is e =
    let t = taken p o (scripts_fault (script_list p.scene)) e in (
      is ∙ ap (λ (z : OpenedScene). let r : Result OpenedScene JobFault = Ok z in r) t.0,
      subst (λ (z : OpenedScene). scripts_fault (script_list z.scene) ≡ None) t.0 t.1,
    )
opened_as text (Err fault) o is e = absurd cc

was_opened : (text : List ℕ) (o : OpenedScene) → staged_scene text ≡ Ok o → (opened text ≡ Ok o) × (scripts_fault (script_list o.scene) ≡ None)
unfolding staged_scene
was_opened text o e = opened_as text (opened text) o refl e

pub are_loaded : (n : ℕ) (text : List ℕ) (o : OpenedScene) → staged_scene text ≡ Ok o → AreLoaded text o.scene o.routes (replicate n (fresh o))
are_loaded n text o e =
    let was = was_opened text o e in
    let own = is_opened text o was.0 in
    record { flat = own.0; is_scene = own.1; attached = runs_all o.scene was.1; one_scene = are_of n o }
