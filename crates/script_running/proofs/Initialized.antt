-- Scripts that were initialized stay so, and are what their kinds and their states say.
use Rattle.std.proofs.Common.{◌≡◌, ℕ, ℤ, Bool, true, false, ◌&&◌, List, [], ◌∷◌, Option, Some, None, Result, Ok, Err, zero, suc, refl, ap, sym, ◌∙◌, arith, length, take}
use Rattle.std.specs.Prelude.{IfErr, OnOk, slice_get, slice_set}
use Rattle.x3d_values.specs.declared.value.Value.{Value}
use Rattle.x3d_values.specs.declared.script.Kind.{Kind}
use Rattle.script_host.specs.Behaviour.{Call, Initialize, Receive, Settle}
use Rattle.script_host.specs.Hosting.{SlotView, after_call, counts_after}
use Rattle.script_host.specs.Restoring.{AreStates, RefusesStates, with_states}
use Rattle.script_slots.specs.declared.fault.StateFault.{StateFault}
use Rattle.script_slots.specs.declared.fault.StateFault.TheVariants.{StateLength, StateRange, Memory}
use Rattle.script_running.specs.Acting.{act, acting, call_of, kinds_of, receive, receiving}
use Rattle.script_running.specs.Ports.{PortsView}
use Rattle.script_running.specs.Running.{are_begun, running, states_of}

both : (x y : Bool) → (x && y) ≡ true → (x ≡ true) × (y ≡ true)
both true true h = (refl, refl)
both true false h = (refl, h)
both false y h = cc

-- ---- kinds and states

abbrev in-state : Kind → List ℤ → Bool → SlotView
in-state kind state initialized = record { kind = kind; state = state; initialized = initialized }

-- scripts that were initialized are what their kinds and their states say
pub begun_running : (rs : List SlotView) → are_begun rs ≡ true → rs ≡ running (kinds_of rs) (states_of rs)
begun_running [] h = refl
begun_running (r ∷ rs) h =
    let (one, rest) = both r.initialized (are_begun rs) h in
    ap (λ (x : Bool). in-state r.kind r.state x ∷ rs) one
    ∙ ap (λ (xs : List SlotView). in-state r.kind r.state true ∷ xs) (begun_running rs rest)

-- ---- calls

begun-set : (rs : List SlotView) (k : ℕ) (r : SlotView) → are_begun rs ≡ true → r.initialized ≡ true → are_begun (slice_set rs k r) ≡ true
begun-set [] k r h is = refl
begun-set (x ∷ rs) zero r h is = cases x.initialized h
  where
    cases : (b : Bool) → (b && are_begun rs) ≡ true → (r.initialized && are_begun rs) ≡ true
    cases true m = rw is m
    cases false m = cc
begun-set (x ∷ rs) (suc k) r h is = cases x.initialized h (λ m. begun-set rs k r m is)
  where
    cases : (b : Bool) → (b && are_begun rs) ≡ true → (are_begun rs ≡ true → are_begun (slice_set rs k r) ≡ true) → (b && are_begun (slice_set rs k r)) ≡ true
    cases true m more = more m
    cases false m more = cc

begun-at : (rs : List SlotView) (k : ℕ) (r : SlotView) → are_begun rs ≡ true → slice_get rs k ≡ Some r → r.initialized ≡ true
begun-at [] k r h here = cc
begun-at (x ∷ rs) zero r h here = let same : x ≡ r = cc in ap (λ (y : SlotView). y.initialized) (sym same) ∙ cases x.initialized h
  where
    cases : (b : Bool) → (b && are_begun rs) ≡ true → b ≡ true
    cases true m = refl
    cases false m = cc
begun-at (x ∷ rs) (suc k) r h here = cases x.initialized h (λ m. begun-at rs k r m here)
  where
    cases : (b : Bool) → (b && are_begun rs) ≡ true → (are_begun rs ≡ true → r.initialized ≡ true) → r.initialized ≡ true
    cases true m more = more m
    cases false m more = cc

counted-after : (call : Call) (before : Bool) → before ≡ true → counts_after call before ≡ true
counted-after Initialize before is = refl
counted-after (Receive input event) before is = is
counted-after Settle before is = is

-- no call takes away that a script was initialized
pub act_begun : (ports : PortsView) (call : Call) (k : ℕ) (rs : List SlotView) → are_begun rs ≡ true → are_begun (act ports call k rs).scripts ≡ true
unfolding act
act_begun ports call k rs h = by-place (slice_get rs k) refl
  where
    by-place : (place : Option SlotView) → slice_get rs k ≡ place → are_begun (acting ports call k rs place).scripts ≡ true
    by-place None here = h
    by-place (Some r) here = begun-set rs k (after_call call r) h (counted-after call r.initialized (begun-at rs k r h here))

pub receive_begun : (ports : PortsView) (k field : ℕ) (value : Value) (rs : List SlotView) → are_begun rs ≡ true → are_begun (receive ports k field value rs).scripts ≡ true
receive_begun ports k field value rs h = by-call (call_of ports k field value rs)
  where
    by-call : (call : Option Call) → are_begun (receiving ports k rs call).scripts ≡ true
    by-call None = h
    by-call (Some call) = act_begun ports call k rs h

-- ---- states that are given

pub given-kinds : (rs : List SlotView) (states : List (List ℤ)) → kinds_of (with_states rs states) ≡ kinds_of rs
given-kinds rs [] = refl
given-kinds [] (state ∷ states) = refl
given-kinds (r ∷ rs) (state ∷ states) = ap (λ (kinds : List Kind). r.kind ∷ kinds) (given-kinds rs states)

given-begun : (rs : List SlotView) (states : List (List ℤ)) → are_begun (with_states rs states) ≡ are_begun rs
given-begun rs [] = refl
given-begun [] (state ∷ states) = refl
given-begun (r ∷ rs) (state ∷ states) = ap (λ (b : Bool). r.initialized && b) (given-begun rs states)

given-states : (rs : List SlotView) (states : List (List ℤ)) → length rs ≡ length states → states_of (with_states rs states) ≡ states
given-states [] [] h = refl
given-states (r ∷ rs) [] h = absurd (omega (arith, h))
given-states [] (state ∷ states) h = absurd (omega (arith, h))
given-states (r ∷ rs) (state ∷ states) h = ap (λ (xs : List (List ℤ)). state ∷ xs) (given-states rs states (omega (arith, h)))

-- a state for each of them
pub given-running : (rs : List SlotView) (states : List (List ℤ)) → are_begun rs ≡ true → AreStates rs states → with_states rs states ≡ running (kinds_of rs) states
given-running rs states h are =
    begun_running (with_states rs states) (given-begun rs states ∙ h)
    ∙ ap (λ (kinds : List Kind). running kinds (states_of (with_states rs states))) (given-kinds rs states)
    ∙ ap (λ (xs : List (List ℤ)). running (kinds_of rs) xs) (given-states rs states are.count)

-- scripts of the same kinds, of which as many were initialized
abbrev pub AreAlike : List SlotView → List SlotView → Type 0
AreAlike old new = (kinds_of new ≡ kinds_of old) × (are_begun new ≡ are_begun old)

alike-given : (old new : List SlotView) (states : List (List ℤ)) → new ≡ with_states old states → AreAlike old new
alike-given old new states is = rw is (given-kinds old states, given-begun old states)

alike-same : (old new : List SlotView) → new ≡ old → AreAlike old new
alike-same old new is = (ap kinds_of is, ap are_begun is)

refused-alike : (fault : StateFault) (old : List SlotView) (states : List (List ℤ)) (new : List SlotView) → RefusesStates fault old states new → AreAlike old new
refused-alike StateLength old states new h = alike-same old new h.0
refused-alike StateRange old states new h = alike-same old new h.0
refused-alike Memory old states new h = alike-given old new (take h.1.0 states) h.1.1

-- whether states are given to scripts or refused, their kinds stand
pub restored_alike : {X : Type 0} (result : Result X StateFault) (old : List SlotView) (states : List (List ℤ)) (new : List SlotView) →
    OnOk result (new ≡ with_states old states) → IfErr result (λ fault. RefusesStates fault old states new) → AreAlike old new
restored_alike (Ok x) old states new given refused = alike-given old new states given
restored_alike (Err fault) old states new given refused = refused-alike fault old states new refused

pub restored_kinds : {X : Type 0} (result : Result X StateFault) (old : List SlotView) (states : List (List ℤ)) (new : List SlotView) →
    OnOk result (new ≡ with_states old states) → IfErr result (λ fault. RefusesStates fault old states new) → kinds_of new ≡ kinds_of old
restored_kinds result old states new given refused = (restored_alike result old states new given refused).0

pub restored_begun : {X : Type 0} (result : Result X StateFault) (old : List SlotView) (states : List (List ℤ)) (new : List SlotView) →
    OnOk result (new ≡ with_states old states) → IfErr result (λ fault. RefusesStates fault old states new) → are_begun old ≡ true → are_begun new ≡ true
restored_begun result old states new given refused h = (restored_alike result old states new given refused).1 ∙ h

-- what stands where each was given its state
pub restored_running : {X : Type 0} (result : Result X StateFault) (old : List SlotView) (states : List (List ℤ)) (new : List SlotView) →
    OnOk result (new ≡ with_states old states) → OnOk result (AreStates old states) → are_begun old ≡ true → OnOk result (new ≡ running (kinds_of old) states)
restored_running (Ok x) old states new given are h = given ∙ given-running old states h are
restored_running (Err fault) old states new given are h = tt

-- the states of scripts that run
pub running_states : (kinds : List Kind) (states : List (List ℤ)) → length kinds ≡ length states → states_of (running kinds states) ≡ states
running_states [] [] h = refl
running_states [] (state ∷ states) h = absurd (omega (arith, h))
running_states (kind ∷ kinds) [] h = absurd (omega (arith, h))
running_states (kind ∷ kinds) (state ∷ states) h = ap (λ (xs : List (List ℤ)). state ∷ xs) (running_states kinds states (omega (arith, h)))

pub ruleset restores = (restored_kinds, restored_begun, restored_running)
