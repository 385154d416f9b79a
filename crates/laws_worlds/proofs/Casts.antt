-- The scripts of a scene all of which run, and the calls that events are.
use Rattle.std.proofs.Common.{◌≡◌, ℕ, zero, suc, Bool, true, false, if◌then◌else◌, List, [], ◌∷◌, map, Option, Some, None, slice_get, refl, ap, subst, ◌∙◌}
use Rattle.std.specs.List.{cons_option, filter_map, list_all}
use Rattle.std.specs.Option.{option_and_then, option_map}
use Rattle.byte_codec.proofs.Laws.{both}
use Rattle.x3d_values.specs.declared.script.Kind.{Kind}
use Rattle.x3d_values.specs.declared.script.ScriptSpec.{ScriptSpec}
use Rattle.x3d_values.specs.declared.value.Value.{Value}
use Rattle.script_host.specs.Behaviour.{Call, Receive}
use Rattle.script_host.specs.Events.{takes_event}
use Rattle.script_host.specs.Hosting.{SlotView}
use Rattle.script_running.specs.Acting.{call_of, kinds_of}
use Rattle.script_running.specs.Ports.{PortsView, call_at, call_by, input_at, is_of_type, takes}
use Rattle.script_running.specs.Values.{numbers_of}
use Rattle.scene_core.specs.declared.scene.End.{End}
use Rattle.scene_core.specs.Scene.{SceneView}
use Rattle.script_running.specs.Runs.{run_of, runs_of}
use Rattle.script_running.specs.Scripts.{script_list}
use Rattle.laws_worlds.specs.Calls.{call_fits}
use Rattle.laws_worlds.specs.Nodes.{RunsAll, runs}
use Rattle.laws_worlds.proofs.Running.{runs_by}
use Rattle.cascade_core.specs.Cascade.{Arrival, arrival}
use Rattle.cascade_core.specs.Course.{CourseView, Wiring, node_of, ports_of, script_of}
use Rattle.cascade_core.specs.Scripts.{kinds_in, script_for}
use Rattle.cascade_core.proofs.SoundLemmas.{script-node}

-- ---- what stands at a place

pub map_at : {A B : Type 0} (f : A → B) (xs : List A) (k : ℕ) (x : A) → slice_get xs k ≡ Some x → slice_get (map f xs) k ≡ Some (f x)
map_at f [] k x h = absurd cc
map_at f (y ∷ xs) zero x h = let same : y ≡ x = cc in ap (λ z. Some (f z)) same
map_at f (y ∷ xs) (suc k) x h = map_at f xs k x h

-- ---- the scripts of a scene

-- what the script of that number, which is of this kind, asks for
pub record Asked (specs : List ScriptSpec) (k : ℕ) (kind : Kind) : Type 0 where
  pub asked : ScriptSpec
  pub here : slice_get specs k ≡ Some asked
  pub of : asked.kind ≡ Some kind
  pub fits : asked.fits ≡ true

asked_from : (specs : List ScriptSpec) (k : ℕ) (kind : Kind) → list_all runs specs ≡ true → slice_get (kinds_of (filter_map script_for specs)) k ≡ Some kind → Asked specs k kind
asked_from [] k kind all h = absurd cc
asked_from (s ∷ specs) k kind all h =
    let (one, rest) = both (runs s) (list_all runs specs) all in
    let r = runs_by s s.kind refl one in
    let made : SlotView = record { kind = r.kind; state = s.start; initialized = false } in
    let first : script_for s ≡ Some made = ap (λ (o : Option Kind). option_map (λ (q : Kind). record { kind = q; state = s.start; initialized = false }) o) r.is in
    at r.kind r.is r.fits k (subst (λ (o : Option SlotView). slice_get (kinds_of (cons_option o (filter_map script_for specs))) k ≡ Some kind) first h)
    (λ j m. asked_from specs j kind rest m)
  where
    at : (own : Kind) → s.kind ≡ Some own → s.fits ≡ true → (k : ℕ) → slice_get (own ∷ kinds_of (filter_map script_for specs)) k ≡ Some kind →
        ((j : ℕ) → slice_get (kinds_of (filter_map script_for specs)) j ≡ Some kind → Asked specs j kind) → Asked (s ∷ specs) k kind
    at own is fits zero m rest = let same : own ≡ kind = cc in record { asked = s; here = refl; of = is ∙ ap (λ (q : Kind). Some q) same; fits = fits }
    at own is fits (suc j) m rest = let a = rest j m in record { asked = a.asked; here = a.here; of = a.of; fits = a.fits }

pub asked_at : (scene : SceneView) (k : ℕ) (kind : Kind) → RunsAll scene → slice_get (kinds_in scene) k ≡ Some kind → Asked (script_list scene) k kind
asked_at scene k kind all h = asked_from (script_list scene) k kind all h

-- it is run so
pub run_at : (scene : SceneView) (k : ℕ) (asked : ScriptSpec) → slice_get (script_list scene) k ≡ Some asked → slice_get (runs_of scene) k ≡ Some (run_of scene asked)
run_at scene k asked h = map_at (run_of scene) (script_list scene) k asked h

-- ---- the scripts of a course

-- each script is of the kind that the scene asks for at its number
abbrev pub AreOf : SceneView → List SlotView → Type 0
AreOf scene scripts = (k : ℕ) (r : SlotView) → slice_get scripts k ≡ Some r → slice_get (kinds_in scene) k ≡ Some r.kind

pub are_of : (scene : SceneView) (scripts : List SlotView) → kinds_of scripts ≡ kinds_in scene → AreOf scene scripts
are_of scene scripts same k r h =
    subst (λ (kinds : List Kind). slice_get kinds k ≡ Some r.kind) same (map_at (λ (x : SlotView). x.kind) scripts k r h)

-- ---- the call that an event is

-- the script that an event calls is that of its target's node, and takes the call
pub record Arrives (wiring : Wiring) (scripts : List SlotView) (target : End) (at : Arrival) : Type 0 where
  pub node : node_of wiring at.number ≡ target.node
  pub fits : (r : SlotView) → slice_get scripts at.number ≡ Some r → call_fits r.kind at.call ≡ true

-- a call of a kind is one that it takes
taken : (kind : Kind) (ports : PortsView) (field : ℕ) (v : Value) (call : Call) → call_at kind ports field v ≡ Some call → call_fits kind call ≡ true
taken kind ports field v call h = by_input (input_at ports field) h
  where
    when : (input : ℕ) (b : Bool) → takes kind input v ≡ b → (if b then Some (Receive input (numbers_of v)) else None) ≡ Some call → call_fits kind call ≡ true
    when input true is m =
        let same : Receive input (numbers_of v) ≡ call = cc in
        subst (λ (c : Call). call_fits kind c ≡ true) same (both (is_of_type kind input v) (takes_event kind input (numbers_of v)) is).1
    when input false is m = absurd cc

    by_input : (o : Option ℕ) → option_and_then (call_by kind v) o ≡ Some call → call_fits kind call ≡ true
    by_input None m = absurd cc
    by_input (Some input) m = when input (takes kind input v) refl m

called : (scripts : List SlotView) (ports : PortsView) (k field : ℕ) (v : Value) (call : Call) → call_of ports k field v scripts ≡ Some call → (r : SlotView) → slice_get scripts k ≡ Some r → call_fits r.kind call ≡ true
called scripts ports k field v call h r here =
    taken r.kind ports field v call
    (subst (λ (o : Option SlotView). option_and_then (λ (x : SlotView). call_at x.kind ports field v) o ≡ Some call) here h)

pub arrives : (wiring : Wiring) (c : CourseView) (target : End) (v : Value) (at : Arrival) → arrival wiring c target v ≡ Some at → Arrives wiring c.scripts target at
arrives wiring c target v at h = by_script (script_of wiring target.node) refl h
  where
    numbered : ℕ → Call → Arrival
    numbered k call = record { number = k; call = call }

    by_call : (k : ℕ) → script_of wiring target.node ≡ Some k → (o : Option Call) → call_of (ports_of wiring k) k target.field v c.scripts ≡ o → option_map (λ call. record { number = k; call = call }) o ≡ Some at → Arrives wiring c.scripts target at
    by_call k is None of m = absurd cc
    by_call k is (Some call) of m =
        let same : numbered k call ≡ at = cc in
        subst (λ (a : Arrival). Arrives wiring c.scripts target a) same
        (record { node = script-node wiring target.node k is; fits = called c.scripts (ports_of wiring k) k target.field v call of })

    by_script : (o : Option ℕ) → script_of wiring target.node ≡ o →
        option_and_then (λ k. option_map (λ call. record { number = k; call = call }) (call_of (ports_of wiring k) k target.field v c.scripts)) o ≡ Some at →
        Arrives wiring c.scripts target at
    by_script None is m = absurd cc
    by_script (Some k) is m = by_call k is (call_of (ports_of wiring k) k target.field v c.scripts) refl m
