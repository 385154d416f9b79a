-- How scripts are put into saved states.
use Rattle.std.specs.Prelude.{◌≡◌, ◌≢◌, ◌⊎◌, ℕ, ℤ, List, [], ◌∷◌, length, take, Some, None}
use Rattle.script_slots.specs.declared.fault.StateFault.{StateFault}
use Rattle.script_slots.specs.declared.fault.StateFault.TheVariants.{StateLength, StateRange, Memory}
use Rattle.script_host.specs.Hosting.{SlotView}
use Rattle.script_host.specs.Pairs.{PairAt, PairsBelow}
use Rattle.script_host.specs.States.{state_fault}

-- a list is a state of this script
abbrev pub IsStateOf : SlotView → List ℤ → Type 0
IsStateOf r state = state_fault r.kind state ≡ None

-- there is a state for each script
pub record AreStates (rs : List SlotView) (states : List (List ℤ)) : Type 0 where
  pub count : length rs ≡ length states
  pub fit : PairsBelow IsStateOf rs states (length rs)

-- there are as many lists as scripts, those before some k are states of their scripts, and the one
-- at k is refused with this fault
pub record IsFirstFault (fault : StateFault) (rs : List SlotView)
    (states : List (List ℤ)) : Type 0 where
  pub count : length rs ≡ length states
  pub at : ℕ
  pub before : PairsBelow IsStateOf rs states at
  pub here : PairAt (λ r state. state_fault r.kind state ≡ Some fault) rs states at

-- the first scripts have these states, the others keep their own
abbrev pub with_states : List SlotView → List (List ℤ) → List SlotView
with_states rs [] = rs
with_states [] (state ∷ states) = []
with_states (r ∷ rs) (state ∷ states) = record r { state = state } ∷ with_states rs states

-- why states are refused, and the scripts afterwards: if memory ran out, some scripts have their
-- new states
abbrev pub RefusesStates : StateFault → List SlotView → List (List ℤ) → List SlotView
    → Type 0
RefusesStates StateLength old states new = (new ≡ old)
    × ((length old ≢ length states) ⊎ IsFirstFault StateLength old states)
RefusesStates StateRange old states new = (new ≡ old) × IsFirstFault StateRange old states
RefusesStates Memory old states new = AreStates old states
    × ((k : ℕ) × (new ≡ with_states old (take k states)))
