-- Time sensors send by their outputs alone.
use Rattle.std.proofs.Common.{◌≡◌, ℕ, ℤ, Bool, true, false, List, [], ◌∷◌, refl, Option, Some, None, eqb-true}
use Rattle.std.specs.Prelude.{◌==◌, if◌then◌else◌, pos, int_lt, is_some}
use Rattle.x3d_values.specs.declared.node_type.NodeType.TheVariants.{TimeSensor}
use Rattle.x3d_values.specs.declared.value.Value.{Value}
use Rattle.x3d_values.specs.declared.value.Value.TheVariants.{SFBool, SFTime}
use Rattle.react_core.specs.declared.outbox.SentEvent.{SentEvent}
use Rattle.react_core.specs.Access.{is_output, leave_by_outputs}
use Rattle.sensor_core.specs.Timing.{TimeFieldsView}
use Rattle.sensor_core.specs.Events.{TimeAnswer, answer, set, changed, is_disabled, with_time}
use Rattle.sensor_core.specs.Ticks.{Tick, tick, tick_active, is_started, last_place, cycle_of}

abbrev pub SentBySensor : List SentEvent → Type 0
SentBySensor replies = leave_by_outputs TimeSensor replies ≡ true

-- ---- a tick

ticks-if : (b : Bool) (s t : Tick) → SentBySensor s.replies → SentBySensor t.replies → SentBySensor (if b then s else t).replies
ticks-if true s t p q = p
ticks-if false s t p q = q

active-leaves : (timing : TimeFieldsView) (cycle : ℕ) (t : ℤ) (x : Option ℤ) → SentBySensor (tick_active timing cycle t x).replies
active-leaves timing cycle t None = ticks-if (int_lt (pos cycle) (cycle_of timing t)) _ _ refl refl
active-leaves timing cycle t (Some x) = refl

pub tick-leaves : (cycle : Option ℕ) (timing : TimeFieldsView) (t : ℤ) → SentBySensor (tick cycle timing t).replies
unfolding tick
tick-leaves None timing t = ticks-if (is_started timing t) _ _ refl refl
tick-leaves (Some cycle) timing t = active-leaves timing cycle t (last_place timing cycle t)

-- ---- an event

-- the input, if it is that of a field, is an output too
Sets : ℕ → Option TimeFieldsView → Type 0
Sets input None = Unit {0}
Sets input (Some new) = is_output TimeSensor input ≡ true

sets-if : (input wanted : ℕ) (s t : Option TimeFieldsView) → is_output TimeSensor wanted ≡ true → Sets input t → Sets input (if input == wanted then s else t)
unfolding Sets
sets-if input wanted s t o q = cases (input == wanted) refl s
  where
    one : (s : Option TimeFieldsView) → is_output TimeSensor input ≡ true → Sets input s
    one None h = tt
    one (Some new) h = h

    cases : (b : Bool) → (input == wanted) ≡ b → (s : Option TimeFieldsView) → Sets input (if b then s else t)
    cases true h s = one s (let e : input ≡ wanted = eqb-true input wanted h in rw e o)
    cases false h s = q

sets-none : (b : Bool) (input : ℕ) (t : Option TimeFieldsView) → Sets input t → Sets input (if b then None else t)
unfolding Sets
sets-none true input t q = tt
sets-none false input t q = q

changed-sets : (active : Bool) (timing : TimeFieldsView) (input : ℕ) (value : Value) → Sets input (changed active timing input value)
unfolding changed Sets
changed-sets active timing input (SFBool truth) = sets-if input 2 _ _ refl (sets-if input 3 _ None refl tt)
changed-sets active timing input (SFTime time) =
    sets-none _ input (with_time timing input time)
    (sets-if input 1 _ _ refl (sets-if input 4 _ _ refl (sets-if input 5 _ _ refl (sets-if input 6 _ _ refl (sets-if input 7 _ None refl tt)))))
changed-sets active timing input _ = tt

answer-leaves : (cycle : Option ℕ) (timing : TimeFieldsView) (input : ℕ) (value : Value) (new : Option TimeFieldsView) → Sets input new → SentBySensor (answer cycle timing input value new).replies
unfolding Sets
answer-leaves cycle timing input value None h = refl
answer-leaves cycle timing input value (Some new) h = disabled (is_disabled new input) (is_some cycle)
  where
    disabled : (b c : Bool) → SentBySensor (if b
        then (let a : TimeAnswer = record { cycle = None; timing = new; replies = record { field = input; value = value } ∷ (if c then record { field = 8; value = SFBool false } ∷ [] else []) } in a)
        else (let a : TimeAnswer = record { cycle = cycle; timing = new; replies = record { field = input; value = value } ∷ [] } in a)).replies
    disabled true true = rw h refl
    disabled true false = rw h refl
    disabled false c = rw h refl

pub set-leaves : (cycle : Option ℕ) (timing : TimeFieldsView) (input : ℕ) (value : Value) → SentBySensor (set cycle timing input value).replies
unfolding set
set-leaves cycle timing input value = answer-leaves cycle timing input value _ (changed-sets (is_some cycle) timing input value)
