-- Turns of a viewer that gives, and of a whole run.
use Rattle.std.proofs.Common.{◌≡◌, ℕ, suc, ◌+◌, ◌++◌, List, [], refl, subst, arith}
use Rattle.std.specs.Prelude.{Option, Result, Ok, Err, IfErr, OnErr, OnOk}
use Rattle.cascade_core.specs.Course.{Scripted}
use Rattle.snapshot_core.specs.Shot.{shot}
use Rattle.snapshot_core.specs.declared.fault.SaveFault.{SaveFault}
use Rattle.snapshot_core.specs.declared.fault.SaveFault.TheVariants as save
use Rattle.share_law.specs.Viewer.{ViewerWorld, Running, Spoiled}
use Rattle.share_core.specs.Viewer.{IfRunning, IfSpoiled, ViewerView}
use Rattle.share_turns.specs.declared.traffic.Traffic.{Traffic}
use Rattle.share_turns.specs.declared.fault.TurnFault.{TurnFault}
use Rattle.share_turns.specs.declared.fault.TurnFault.TheVariants as turn_fault
use Rattle.share_turns.specs.HostTurn.{failures_after}
use Rattle.share_turns.specs.Gives.{GiveTurns, GiveTurnsEnd, Gives, IsGiveEnd, IsGiveTurn, IsShot, not_taken}

-- one turn more
pub given_more : (mark bytes : List ℕ) (to n : ℕ) (a b c : Option (List Traffic)) → GiveTurns mark bytes to n a b → IsGiveTurn mark bytes to n b c
    → GiveTurns mark bytes to (n + 1) a c
given_more mark bytes to n a b c turns turn =
    let next : suc n ≡ n + 1 = omega arith in
    subst (λ k. GiveTurns mark bytes to k a c) next (b, turns, turn)

-- ---- the snapshot

abbrev shot_taken : Result (Unit {0}) SaveFault
shot_taken = Ok tt

abbrev shot_refused : SaveFault → Result (Unit {0}) SaveFault
shot_refused fault = Err fault

pub is_shot : (v : ViewerView) (before after : List ℕ) → IfSpoiled v.state.view ((shot_taken ≡ Err save.Spoiled) × (after ≡ before))
    → IfRunning v.state.view (λ w. after ≡ before ++ shot v.mark v.state.boot v.scene w) → IsShot v before (Ok tt) after
is_shot v before after spoiled ok = go v.state.view spoiled ok
  where
    go : (view : ViewerWorld Scripted) → IfSpoiled view ((shot_taken ≡ Err save.Spoiled) × (after ≡ before))
        → IfRunning view (λ w. after ≡ before ++ shot v.mark v.state.boot v.scene w)
        → IfSpoiled view ⊥ × IfRunning view (λ w. after ≡ before ++ shot v.mark v.state.boot v.scene w)
    go (Running w window) spoiled ok = (tt, ok)
    go (Spoiled count) spoiled ok = absurd (cc)

runs_still : (view : ViewerWorld Scripted) (same : Type 0) → IfSpoiled view ((shot_refused save.Memory ≡ Err save.Spoiled) × same) → IfSpoiled view ⊥
runs_still (Running w window) same s = tt
runs_still (Spoiled count) same s = absurd (cc)

is_over_with : (view : ViewerWorld Scripted) (same : Type 0) → IfRunning view (λ w. (shot_refused save.Spoiled ≡ Err save.Memory) × same) → IfRunning view (λ w. ⊥)
is_over_with (Running w window) same s = absurd (cc)
is_over_with (Spoiled count) same s = tt

pub no_shot : (v : ViewerView) (fault : SaveFault) (before after : List ℕ) → IfSpoiled v.state.view ((shot_refused fault ≡ Err save.Spoiled) × (after ≡ before))
    → IfRunning v.state.view (λ w. (shot_refused fault ≡ Err save.Memory) × (after ≡ before)) → IsShot v before (Err (not_taken fault)) after
no_shot v save.Spoiled before after spoiled err = is_over_with v.state.view (after ≡ before) err
no_shot v save.Memory before after spoiled err = runs_still v.state.view (after ≡ before) spoiled

-- no snapshot was taken
pub gave_none : (v : ViewerView) (fault : TurnFault) (to turns : ℕ) (a : Option (List Traffic)) (before after : List ℕ) → IsShot v before (Err fault) after → IsGiveEnd v to turns a a fault
gave_none v turn_fault.Port to turns a before after s = absurd s
gave_none v turn_fault.Spoiled to turns a before after s = (s, refl)
gave_none v turn_fault.Memory to turns a before after s = (s, refl)

-- and no port failed
pub none_sent : (v : ViewerView) (fault : TurnFault) (before after : List ℕ) (n m : ℕ) → IsShot v before (Err fault) after → m ≡ n → m ≡ failures_after {A = Unit {0}} (Err fault) n
none_sent v turn_fault.Port before after n m s e = absurd s
none_sent v turn_fault.Spoiled before after n m s e = e
none_sent v turn_fault.Memory before after n m s e = e

if_runs : (view : ViewerWorld Scripted) (P Q : Scripted → Type 0) → ((w : Scripted) → P w → Q w) → IfRunning view P → IfRunning view Q
if_runs (Running w window) P Q f p = f w p
if_runs (Spoiled count) P Q f p = tt

abbrev own_shot : ViewerView → Scripted → List ℕ
own_shot v w = shot v.mark v.state.boot v.scene w

-- turns by the snapshot that was taken into an empty buffer
pub gave : (v : ViewerView) (result : Result (Unit {0}) TurnFault) (to turns : ℕ) (a b : Option (List Traffic)) (bytes : List ℕ) → IsShot v [] (Ok tt) bytes
    → OnOk result (GiveTurns v.mark bytes to turns a b) → OnOk result (Gives v to turns a b)
gave v (Ok x) to turns a b bytes s turned =
    (s.0, if_runs v.state.view (λ w. bytes ≡ own_shot v w) (λ w. GiveTurns v.mark (own_shot v w) to turns a b) (λ w e. subst (λ (xs : List ℕ). GiveTurns v.mark xs to turns a b) e turned) s.1)
gave v (Err fault) to turns a b bytes s turned = tt

pub gave_cut : (v : ViewerView) (result : Result (Unit {0}) TurnFault) (to turns : ℕ) (a b : Option (List Traffic)) (bytes : List ℕ) → IsShot v [] (Ok tt) bytes
    → OnErr result (GiveTurnsEnd v.mark bytes to turns a b) → OnErr result (result ≡ Err turn_fault.Port) → IfErr result (IsGiveEnd v to turns a b)
gave_cut v (Ok x) to turns a b bytes s turned port = tt
gave_cut v (Err turn_fault.Port) to turns a b bytes s turned port =
    (s.0, if_runs v.state.view (λ w. bytes ≡ own_shot v w) (λ w. GiveTurnsEnd v.mark (own_shot v w) to turns a b) (λ w e. subst (λ (xs : List ℕ). GiveTurnsEnd v.mark xs to turns a b) e turned) s.1)
gave_cut v (Err turn_fault.Spoiled) to turns a b bytes s turned port = absurd (cc)
gave_cut v (Err turn_fault.Memory) to turns a b bytes s turned port = absurd (cc)
