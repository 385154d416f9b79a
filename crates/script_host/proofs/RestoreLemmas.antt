-- Scripts that are given states one after the other.
use Rattle.std.proofs.Common.{◌≡◌, ◌<◌, ◌+◌, ℕ, zero, suc, ℤ, List, [], ◌∷◌, ◌++◌, length, take, drop, append-nil, slice_get, slice_set, get_or, Bool, true, false, Option, Some, None, refl, ap, ◌∙◌, sym, inr, arith, if◌then◌else◌}
use Rattle.std.specs.Prelude.{nat_le, IsSomeAnd}
use Rattle.std.specs.List.{list_all}
use Rattle.x3d_values.specs.Ranges.{coordinate_fits}
use Rattle.std.proofs.lemmas.List.{take_all, drop_all}
use Rattle.std.proofs.lemmas.Option.{slice_get_read}
use Rattle.script_host.specs.Hosting.{SlotView}
use Rattle.script_host.specs.Pairs.{PairAt}
use Rattle.script_host.specs.Restoring.{with_states, IsFirstFault, IsStateOf, RefusesStates}
use Rattle.script_host.specs.States.{range_fault, state_fault}
use Rattle.script_slots.specs.declared.fault.StateFault.{StateFault}
use Rattle.script_slots.specs.declared.fault.StateFault.TheVariants.{StateLength, StateRange, Memory}
use Rattle.x3d_values.specs.declared.script.Kind.{Kind}
use Rattle.x3d_values.specs.declared.script.Kind.TheVariants.{Counter, Gate, Adder, Batch, Mover, Meter}

-- the script behind those that have their states is as it was
pub with_states-next : (rs : List SlotView) (states : List (List ℤ)) (k : ℕ)
    → slice_get (with_states rs (take k states)) k ≡ slice_get rs k
with_states-next rs states zero = refl
with_states-next rs [] (suc k) = refl
with_states-next [] (state ∷ states) (suc k) = refl
with_states-next (r ∷ rs) (state ∷ states) (suc k) = with_states-next rs states k

-- one script more is given its state
pub with_states-suc : (rs : List SlotView) (states : List (List ℤ)) (k : ℕ) (r : SlotView) (state : List ℤ)
    → slice_get rs k ≡ Some r → slice_get states k ≡ Some state
    → slice_set (with_states rs (take k states)) k (record r { state = state }) ≡ with_states rs (take (suc k) states)
with_states-suc (r ∷ rs) (state ∷ states) zero r' state' here there = cc
with_states-suc (r ∷ rs) (state ∷ states) (suc k) r' state' here there =
    ap (λ xs. (record r { state = state }) ∷ xs) (with_states-suc rs states k r' state' here there)
with_states-suc [] states k r state here there = cc
with_states-suc (r ∷ rs) [] k r' state here there = cc

-- a script that is read behind those that have their states is the one that stood there
at_start : (rs now : List SlotView) (states : List (List ℤ)) (k : ℕ) (r : SlotView)
    → now ≡ with_states rs (take k states) → k < length now → r ≡ get_or now k r → slice_get rs k ≡ Some r
at_start rs now states k r e in_now at_r =
    sym (with_states-next rs states k) ∙ ap (λ xs. slice_get xs k) (sym e) ∙ slice_get_read now (length now) k r refl in_now at_r

-- the list at its place is a state of it
pub fits_next : (rs now : List SlotView) (states : List (List ℤ)) (k : ℕ) (r : SlotView) (state : List ℤ)
    → now ≡ with_states rs (take k states) → k < length now → k < length states
    → r ≡ get_or now k r → state ≡ get_or states k state
    → PairAt IsStateOf rs states k → state_fault r.kind state ≡ None
fits_next rs now states k r state e in_now in_states at_r at_state h =
    let r_here = at_start rs now states k r e in_now at_r in
    let state_here : slice_get states k ≡ Some state = slice_get_read states (length states) k state refl in_states at_state in
    rw (r_here, state_here) at h

-- and it is given to it
pub restored_next : (rs now : List SlotView) (states : List (List ℤ)) (k : ℕ) (r : SlotView) (state : List ℤ)
    → now ≡ with_states rs (take k states) → k < length now → k < length states
    → r ≡ get_or now k r → state ≡ get_or states k state
    → slice_set now k (record r { state = state }) ≡ with_states rs (take (k + 1) states)
restored_next rs now states k r state e in_now in_states at_r at_state =
    let r_here = at_start rs now states k r e in_now at_r in
    let state_here : slice_get states k ≡ Some state = slice_get_read states (length states) k state refl in_states at_state in
    let counted : suc k ≡ k + 1 = omega arith in
    ap (λ xs. slice_set xs k (record r { state = state })) e ∙ with_states-suc rs states k r state r_here state_here
    ∙ ap (λ n. with_states rs (take n states)) counted

-- ---- a list is refused for its length or its numbers alone

in_range : (b : Bool) → range_fault b ≡ Some Memory → ⊥
in_range true e = absurd cc
in_range false e = absurd cc

never_memory : (kind : Kind) (state : List ℤ) → state_fault kind state ≡ Some Memory → ⊥
never_memory Counter (count ∷ step ∷ []) e = in_range _ e
never_memory Counter [] e = absurd cc
never_memory Counter (count ∷ []) e = absurd cc
never_memory Counter (count ∷ step ∷ more ∷ rest) e = absurd cc
never_memory Gate (truth ∷ []) e = in_range _ e
never_memory Gate [] e = absurd cc
never_memory Gate (truth ∷ more ∷ rest) e = absurd cc
never_memory Adder (a ∷ b ∷ []) e = in_range _ e
never_memory Adder [] e = absurd cc
never_memory Adder (a ∷ []) e = absurd cc
never_memory Adder (a ∷ b ∷ more ∷ rest) e = absurd cc
never_memory Batch (pending ∷ []) e = in_range _ e
never_memory Batch [] e = absurd cc
never_memory Batch (pending ∷ more ∷ rest) e = absurd cc
never_memory Mover (x ∷ y ∷ z ∷ x' ∷ y' ∷ z' ∷ []) e = in_range _ e
never_memory Mover [] e = absurd cc
never_memory Mover (a ∷ []) e = absurd cc
never_memory Mover (a ∷ b ∷ []) e = absurd cc
never_memory Mover (a ∷ b ∷ c ∷ []) e = absurd cc
never_memory Mover (a ∷ b ∷ c ∷ d ∷ []) e = absurd cc
never_memory Mover (a ∷ b ∷ c ∷ d ∷ f ∷ []) e = absurd cc
never_memory Mover (a ∷ b ∷ c ∷ d ∷ f ∷ g ∷ more ∷ rest) e = absurd cc
never_memory Meter readings e =
    elim (nat_le (length readings) 8) as (λ b. (if b then range_fault (list_all coordinate_fits readings) else Some StateLength) ≡ Some Memory → ⊥)
    [ true ↦ in_range _ | false ↦ λ h. absurd cc ] e

no_pair : (x : Option SlotView) (y : Option (List ℤ)) → IsSomeAnd x (λ r. IsSomeAnd y (λ state. state_fault r.kind state ≡ Some Memory)) → ⊥
no_pair (Some r) (Some state) h = never_memory r.kind state h
no_pair (Some r) None h = absurd h
no_pair None y h = absurd h

-- the first list that is none is why the lists are refused
pub refuses_first : (fault : StateFault) (rs : List SlotView) (states : List (List ℤ)) → IsFirstFault fault rs states → RefusesStates fault rs states rs
refuses_first StateLength rs states h = (refl, inr h)
refuses_first StateRange rs states h = (refl, h)
refuses_first Memory rs states h = absurd (no_pair _ _ h.here)

-- what a call left of a whole list
pub written : (n : ℕ) (new old : List SlotView) → length new ≡ length old → n ≡ length old → take n (new ++ drop (length new) old) ≡ new
written n new old same all =
    ap (λ l. take n (new ++ l)) (drop_all (length new) old (omega (arith, same)))
    ∙ ap (take n) (append-nil new) ∙ take_all n new (omega (arith, same, all))
