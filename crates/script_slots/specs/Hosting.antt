-- What callers see of each script of a world: its kind, its state, and whether it counts as
-- initialized.
use Rattle.std.specs.Prelude.{◌≡◌, ℕ, ℤ, List, Bool, true, false, IsTrue, slice_get, slice_set, IsSomeAnd}
use Rattle.std.specs.Option.{ForSome}
use Rattle.x3d_values.specs.declared.script.Kind.{Kind}
use Rattle.script_slots.specs.declared.reply.Reply.{Reply}
use Rattle.script_slots.specs.Behaviour.{behave, Call, Initialize, Receive, Settle, CallAnswer}
use Rattle.script_slots.specs.Events.{takes_event}

pub record SlotView : Type 0 where
  pub kind : Kind
  pub state : List ℤ
  pub initialized : Bool

-- a script that was not initialized, seen by its kind and its state
abbrev pub fresh_record : {X : Type 0} → (X → Kind) → (X → List ℤ) → X → SlotView
fresh_record kind_of numbers x = record { kind = kind_of x; state = numbers x; initialized = false }

-- what a call on this script answers
abbrev pub answer_of : Call → SlotView → CallAnswer
answer_of call r = behave r.kind call r.state

-- whether a script counts as initialized after a call
abbrev pub counts_after : Call → Bool → Bool
counts_after Initialize before = true
counts_after (Receive input event) before = before
counts_after Settle before = before

-- the script after a call
abbrev pub after_call : Call → SlotView → SlotView
after_call call r =
    record r { state = (answer_of call r).state; initialized = counts_after call r.initialized }

-- script k was called: the call changed only this script and gave these replies
abbrev pub CalledAt : Call → ℕ → List SlotView → List SlotView → List Reply → Type 0
CalledAt call k old new replies =
    IsSomeAnd (slice_get old k) (λ r. (new ≡ slice_set old k (after_call call r))
    × (replies ≡ (answer_of call r).replies))

-- the event is a value of the type of this input of script k
abbrev pub TakesAt : ℕ → ℕ → List ℤ → List SlotView → Type 0
TakesAt k input event rs = ForSome (slice_get rs k) (λ r. IsTrue (takes_event r.kind input event))
