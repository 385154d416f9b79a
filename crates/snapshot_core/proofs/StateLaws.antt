-- Which lists are states of the scripts of a scene, by a test and by places.
use Rattle.std.proofs.Common.{◌≡◌, ℕ, zero, suc, inl, inr, true, false, List, [], ◌∷◌, length, map, Option, Some, None, refl, ap, subst, arith}
use Rattle.std.specs.Prelude.{◌≢◌, ℤ, is_none, Result, Ok, Err}
use Rattle.std.proofs.lemmas.Bool.{and_right}
use Rattle.byte_codec.proofs.Laws.{both, and_true}
use Rattle.x3d_values.specs.declared.script.Kind.{Kind}
use Rattle.scene_core.specs.Scene.{SceneView}
use Rattle.script_host.specs.Hosting.{SlotView}
use Rattle.script_host.specs.Pairs.{PairAt, PairsBelow}
use Rattle.script_host.specs.Restoring.{IsFirstFault, IsStateOf}
use Rattle.script_host.specs.States.{state_fault}
use Rattle.script_slots.specs.declared.fault.StateFault.{StateFault}
use Rattle.script_slots.specs.declared.fault.StateFault.TheVariants.{StateLength, StateRange}
use Rattle.cascade_core.specs.Course.{Scripted}
use Rattle.cascade_core.specs.Held.{StageView, Running, holding}
use Rattle.cascade_core.specs.Installing.{RefusesInstall, StatesFit}
use Rattle.cascade_core.specs.Scripts.{kinds_in, scripts_in}
use Rattle.snapshot_core.specs.declared.fault.SnapFault.{SnapFault}
use Rattle.snapshot_core.specs.declared.fault.SnapFault.TheVariants.{ScriptState}
use Rattle.snapshot_core.specs.declared.loading.Saved.{Saved}
use Rattle.snapshot_core.specs.declared.world.Found.{Found}
use Rattle.snapshot_core.specs.Loading.{load_outcome, states_fit, with_states}
use Rattle.snapshot_core.specs.WorldCodec.{booted}

abbrev kinds : List SlotView → List Kind
kinds rs = map (λ (r : SlotView). r.kind) rs

-- ---- there is a state for each script

no_fault : (f : Option StateFault) → f ≡ None → is_none f ≡ true
no_fault f e = rw e refl

pairs_fit : (rs : List SlotView) (states : List (List ℤ)) → length rs ≡ length states → PairsBelow IsStateOf rs states (length rs) → states_fit (kinds rs) states ≡ true
pairs_fit [] [] n fit = refl
pairs_fit [] (s ∷ states) n fit = absurd (omega (arith, n))
pairs_fit (r ∷ rs) [] n fit = absurd (omega (arith, n))
pairs_fit (r ∷ rs) (s ∷ states) n fit =
    and_true _ _ (no_fault (state_fault r.kind s) (fit 0 (omega arith))) (pairs_fit rs states (omega (arith, n)) (λ j below. fit (suc j) (omega (arith, below))))

pub all_fit : (scene : SceneView) (states : List (List ℤ)) → StatesFit scene states → states_fit (kinds_in scene) states ≡ true
all_fit scene states are = pairs_fit (scripts_in scene) states are.count are.fit

-- ---- and the other way

pub is_nothing : (f : Option StateFault) → is_none f ≡ true → f ≡ None
is_nothing None e = refl
is_nothing (Some x) e = absurd cc

counted : (rs : List SlotView) (states : List (List ℤ)) → states_fit (kinds rs) states ≡ true → length rs ≡ length states
counted [] [] e = refl
counted [] (s ∷ states) e = absurd cc
counted (r ∷ rs) [] e = absurd cc
counted (r ∷ rs) (s ∷ states) e = ap suc (counted rs states (both (is_none (state_fault r.kind s)) (states_fit (kinds rs) states) e).1)

fitting : (rs : List SlotView) (states : List (List ℤ)) → states_fit (kinds rs) states ≡ true → PairsBelow IsStateOf rs states (length rs)
fitting [] states e j below = absurd (omega (arith, below))
fitting (r ∷ rs) [] e j below = absurd cc
fitting (r ∷ rs) (s ∷ states) e zero below = is_nothing (state_fault r.kind s) (both (is_none (state_fault r.kind s)) (states_fit (kinds rs) states) e).0
fitting (r ∷ rs) (s ∷ states) e (suc j) below = fitting rs states (both (is_none (state_fault r.kind s)) (states_fit (kinds rs) states) e).1 j (omega (arith, below))

pub fitting_all : (scene : SceneView) (states : List (List ℤ)) → states_fit (kinds_in scene) states ≡ true → StatesFit scene states
fitting_all scene states e = record { count = counted (scripts_in scene) states e; fit = fitting (scripts_in scene) states e }

-- ---- there is none for some script

by_length : (rs : List SlotView) (states : List (List ℤ)) → length rs ≢ length states → states_fit (kinds rs) states ≡ false
by_length [] [] n = absurd (n refl)
by_length [] (s ∷ states) n = refl
by_length (r ∷ rs) [] n = refl
by_length (r ∷ rs) (s ∷ states) n = and_right (is_none (state_fault r.kind s)) _ (by_length rs states (λ e. n (ap suc e)))

by_fault : (fault : StateFault) (rs : List SlotView) (states : List (List ℤ)) (k : ℕ) → PairAt (λ (r : SlotView) (s : List ℤ). state_fault r.kind s ≡ Some fault) rs states k → states_fit (kinds rs) states ≡ false
by_fault fault [] states k here = absurd here
by_fault fault (r ∷ rs) [] k here = refl
by_fault fault (r ∷ rs) (s ∷ states) zero here = rw here refl
by_fault fault (r ∷ rs) (s ∷ states) (suc k) here = and_right (is_none (state_fault r.kind s)) _ (by_fault fault rs states k here)

not_fitting : (scene : SceneView) (states : List (List ℤ)) (fault : StateFault) → IsFirstFault fault (scripts_in scene) states → states_fit (kinds_in scene) states ≡ false
not_fitting scene states fault first = by_fault fault (scripts_in scene) states first.at first.here

-- ---- a world that was read

pub stated : (scene : SceneView) (x : ℕ × Scripted) → states_fit (kinds_in scene) x.1.states ≡ true → with_states scene (Ok x) ≡ Ok x
stated scene x e = rw e refl

-- ---- a world that is put into a stage

abbrev Outcome : Type 0
Outcome = Result Saved SnapFault × StageView

abbrev outcome : StageView → Found → Outcome
outcome old found = load_outcome old (with_states old.scene (Ok (booted found)))

abbrev saved : Found → Saved
saved found = record { boot = found.boot; applied = found.world.applied }

pub installed : (old new : StageView) (found : Found) (states : List (List ℤ)) → states ≡ found.states → StatesFit old.scene states
    → new ≡ holding old (Running (record { world = found.world; states = states })) → outcome old found ≡ (Ok (saved found), new)
installed old new found states same fit is =
    let fits : states_fit (kinds_in old.scene) found.states ≡ true = all_fit old.scene found.states (subst (StatesFit old.scene) same fit) in
    rw (is, same, fits) refl

unfit : (old new : StageView) (found : Found) (states : List (List ℤ)) → states ≡ found.states → new ≡ old → states_fit (kinds_in old.scene) states ≡ false → outcome old found ≡ (Err ScriptState, new)
unfit old new found states same is none =
    let fits : states_fit (kinds_in old.scene) found.states ≡ false = subst (λ (s : List (List ℤ)). states_fit (kinds_in old.scene) s ≡ false) same none in
    rw (is, fits) refl

pub another_length : (old new : StageView) (found : Found) (states : List (List ℤ)) → states ≡ found.states → RefusesInstall StateLength old states new → outcome old found ≡ (Err ScriptState, new)
another_length old new found states same (is, inl n) = unfit old new found states same is (by_length (scripts_in old.scene) states n)
another_length old new found states same (is, inr first) = unfit old new found states same is (not_fitting old.scene states StateLength first)

pub out_of_range : (old new : StageView) (found : Found) (states : List (List ℤ)) → states ≡ found.states → RefusesInstall StateRange old states new → outcome old found ≡ (Err ScriptState, new)
out_of_range old new found states same refused = unfit old new found states same refused.0 (not_fitting old.scene states StateRange refused.1)
