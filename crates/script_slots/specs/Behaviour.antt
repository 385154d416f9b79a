-- What the calls on a script of each kind do, given its state alone (our choice of kinds).
use Rattle.std.specs.Prelude.{ℕ, zero, suc, ◌-◌, ◌^◌, ℤ, pos, negsuc, ◌+ℤ◌, ◌-ℤ◌, ◌*ℤ◌, List, [], ◌∷◌, ◌++◌, length, drop, fold, Bool, false, ◌==◌, if◌then◌else◌}
use Rattle.std.specs.Int.{int_div_euclid, saturate_signed, w32}
pub use Rattle.x3d_values.specs.Ranges.{clamped}
use Rattle.x3d_values.specs.declared.script.Kind.{Kind}
use Rattle.x3d_values.specs.declared.script.Kind.TheVariants.{Counter, Gate, Adder, Batch, Mover, Meter}
use Rattle.script_slots.specs.declared.reply.Reply.{Reply}

-- one call on a script: it is initialized, it receives a value at an input, or the events of a
-- timestamp were processed
pub data Call : Type 0 where
  Initialize : Call
  Receive : ℕ → List ℤ → Call
  Settle : Call

-- the state after a call, and what the script sends
pub record CallAnswer : Type 0 where
  pub state : List ℤ
  pub replies : List Reply

-- -- helpers

-- a reply of one number
abbrev pub sends : ℕ → ℤ → Reply
sends output number = record { output = output; numbers = number ∷ pos 0 ∷ pos 0 ∷ [] }

-- nothing is sent, and nothing changes
abbrev pub keeps : List ℤ → CallAnswer
keeps state = record { state = state; replies = [] }

-- the number of an event that has one number
abbrev pub number_of : List ℤ → ℤ
number_of [] = pos 0
number_of (number ∷ _) = number

-- TRUE is 1
abbrev pub is_one : ℤ → Bool
is_one (pos n) = n == 1
is_one (negsuc n) = false

-- ---- counter: the count and the step

-- the count after a step, clamped to 32 bits
abbrev pub next_count : ℤ → ℤ → ℤ
next_count count step = saturate_signed w32 (count +ℤ step)

abbrev pub counted : ℤ → ℤ → CallAnswer
counted count step = record { state = count ∷ step ∷ []; replies = sends 0 count ∷ [] }

-- TRUE at `tick` adds the step and sends `count`
abbrev pub counter : Call → List ℤ → CallAnswer
counter (Receive zero event) (count ∷ step ∷ []) =
    if is_one (number_of event) then counted (next_count count step) step
    else keeps (count ∷ step ∷ [])
counter _ state = keeps state

-- ---- gate: whether it is open

abbrev pub opened : ℤ → CallAnswer
opened truth = record { state = truth ∷ []; replies = sends 0 truth ∷ [] }

-- a gate sends `isOpen` when it is initialized and when it receives `open`; while open, it sends
-- each `pulse` as `passed`
abbrev pub gate : Call → List ℤ → CallAnswer
gate Initialize (truth ∷ []) = opened truth
gate (Receive zero event) (truth ∷ []) = opened (number_of event)
gate (Receive (suc zero) event) (truth ∷ []) =
    if is_one truth then record { state = truth ∷ []; replies = sends 1 (number_of event) ∷ [] }
    else keeps (truth ∷ [])
gate _ state = keeps state

-- ---- adder: its two terms

abbrev pub added : ℤ → ℤ → CallAnswer
added a b = record { state = a ∷ b ∷ []; replies = sends 0 (clamped (a +ℤ b)) ∷ [] }

-- `a` and `b` each set a term and send `sum`
abbrev pub adder : Call → List ℤ → CallAnswer
adder (Receive zero event) (a ∷ b ∷ []) = added (number_of event) b
adder (Receive (suc zero) event) (a ∷ b ∷ []) = added a (number_of event)
adder _ state = keeps state

-- ---- batch: the number of pending items

-- the number of pending items plus one, at most 2^31 - 1
abbrev pub one_more : ℤ → ℤ
one_more pending = saturate_signed w32 (pending +ℤ pos 1)

-- `item` adds one item; when the events were processed, `many` and `any` are sent and none is
-- pending
abbrev pub batch : Call → List ℤ → CallAnswer
batch (Receive zero event) (pending ∷ []) = keeps (one_more pending ∷ [])
batch Settle (pending ∷ []) =
    record { state = pos 0 ∷ []; replies = sends 0 pending ∷ sends 1 (pos 1) ∷ [] }
batch _ state = keeps state

-- -- mover: the places from which and to which it moves

-- the coordinate at a fraction, in millionths, of the way between two others, rounded down
unfoldable pub part_way : ℤ → ℤ → ℤ → ℤ
part_way fraction from to =
    clamped (from +ℤ int_div_euclid (fraction *ℤ (to -ℤ from)) (pos (10 ^ 6)))

-- `fraction` sends `position`
abbrev pub mover : Call → List ℤ → CallAnswer
mover (Receive zero event) (x ∷ y ∷ z ∷ x' ∷ y' ∷ z' ∷ []) = let part =
    part_way (number_of event) in record {
      state = x ∷ y ∷ z ∷ x' ∷ y' ∷ z' ∷ [];
      replies = record { output = 0; numbers = part x x' ∷ part y y' ∷ part z z' ∷ [] } ∷ [];
    }
mover _ state = keeps state

-- ---- meter: the last readings, oldest first

-- the last eight readings
abbrev pub last_eight : List ℤ → List ℤ
last_eight readings = drop (length readings - 8) readings

-- the mean of the readings, rounded down
abbrev pub mean : List ℤ → ℤ
mean readings = int_div_euclid (fold ◌+ℤ◌ (pos 0) readings) (pos (length readings))

abbrev pub metered : List ℤ → CallAnswer
metered readings = record { state = readings; replies = sends 0 (mean readings) ∷ [] }

-- `reading` is kept and sends `mean`
abbrev pub meter : Call → List ℤ → CallAnswer
meter (Receive zero event) readings = metered (last_eight (readings ++ number_of event ∷ []))
meter _ state = keeps state

-- ---- every kind

abbrev pub behave : Kind → Call → List ℤ → CallAnswer
behave Counter = counter
behave Gate = gate
behave Adder = adder
behave Batch = batch
behave Mover = mover
behave Meter = meter
