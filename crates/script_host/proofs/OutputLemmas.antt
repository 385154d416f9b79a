-- Scripts send from outputs of their kinds.
use Rattle.std.proofs.Common.{zero, suc, ℤ, List, [], ◌∷◌, Bool, true, false, IsTrue, if◌then◌else◌, refl}
use Rattle.x3d_values.specs.declared.script.Kind.TheVariants.{Counter, Gate, Adder, Batch, Mover, Meter}
use Rattle.script_host.specs.Behaviour.{Call, Initialize, Receive, Settle, CallAnswer, counter, gate, adder, batch, mover, meter, counted, next_count, keeps, sends, number_of, is_one}
use Rattle.script_host.specs.Outputs.{leave_by_outputs, SendsByOutputs}

counter_sends : (call : Call) (state : List ℤ) → IsTrue (leave_by_outputs Counter (counter call state).replies)
counter_sends Initialize state = refl
counter_sends Settle state = refl
counter_sends (Receive (suc input) event) state = refl
counter_sends (Receive zero event) (count ∷ step ∷ []) =
    elim (is_one (number_of event)) as (λ b. IsTrue (leave_by_outputs Counter (ticked b).replies)) [ true ↦ refl | false ↦ refl ]
  where
    ticked : Bool → CallAnswer
    ticked b = if b then counted (next_count count step) step else keeps (count ∷ step ∷ [])
counter_sends (Receive zero event) [] = refl
counter_sends (Receive zero event) (count ∷ []) = refl
counter_sends (Receive zero event) (count ∷ step ∷ more ∷ rest) = refl

gate_sends : (call : Call) (state : List ℤ) → IsTrue (leave_by_outputs Gate (gate call state).replies)
gate_sends Initialize (truth ∷ []) = refl
gate_sends Initialize [] = refl
gate_sends Initialize (truth ∷ more ∷ rest) = refl
gate_sends Settle state = refl
gate_sends (Receive zero event) (truth ∷ []) = refl
gate_sends (Receive zero event) [] = refl
gate_sends (Receive zero event) (truth ∷ more ∷ rest) = refl
gate_sends (Receive (suc zero) event) (truth ∷ []) =
    elim (is_one truth) as (λ b. IsTrue (leave_by_outputs Gate (passed b).replies)) [ true ↦ refl | false ↦ refl ]
  where
    passed : Bool → CallAnswer
    passed b = if b then record { state = truth ∷ []; replies = sends 1 (number_of event) ∷ [] } else keeps (truth ∷ [])
gate_sends (Receive (suc zero) event) [] = refl
gate_sends (Receive (suc zero) event) (truth ∷ more ∷ rest) = refl
gate_sends (Receive (suc (suc input)) event) state = refl

adder_sends : (call : Call) (state : List ℤ) → IsTrue (leave_by_outputs Adder (adder call state).replies)
adder_sends Initialize state = refl
adder_sends Settle state = refl
adder_sends (Receive zero event) (a ∷ b ∷ []) = refl
adder_sends (Receive zero event) [] = refl
adder_sends (Receive zero event) (a ∷ []) = refl
adder_sends (Receive zero event) (a ∷ b ∷ more ∷ rest) = refl
adder_sends (Receive (suc zero) event) (a ∷ b ∷ []) = refl
adder_sends (Receive (suc zero) event) [] = refl
adder_sends (Receive (suc zero) event) (a ∷ []) = refl
adder_sends (Receive (suc zero) event) (a ∷ b ∷ more ∷ rest) = refl
adder_sends (Receive (suc (suc input)) event) state = refl

batch_sends : (call : Call) (state : List ℤ) → IsTrue (leave_by_outputs Batch (batch call state).replies)
batch_sends Initialize state = refl
batch_sends (Receive zero event) (pending ∷ []) = refl
batch_sends (Receive zero event) [] = refl
batch_sends (Receive zero event) (pending ∷ more ∷ rest) = refl
batch_sends (Receive (suc input) event) state = refl
batch_sends Settle (pending ∷ []) = refl
batch_sends Settle [] = refl
batch_sends Settle (pending ∷ more ∷ rest) = refl

mover_sends : (call : Call) (state : List ℤ) → IsTrue (leave_by_outputs Mover (mover call state).replies)
mover_sends Initialize state = refl
mover_sends Settle state = refl
mover_sends (Receive (suc input) event) state = refl
mover_sends (Receive zero event) [] = refl
mover_sends (Receive zero event) (a ∷ []) = refl
mover_sends (Receive zero event) (a ∷ b ∷ []) = refl
mover_sends (Receive zero event) (a ∷ b ∷ c ∷ []) = refl
mover_sends (Receive zero event) (a ∷ b ∷ c ∷ d ∷ []) = refl
mover_sends (Receive zero event) (a ∷ b ∷ c ∷ d ∷ e ∷ []) = refl
mover_sends (Receive zero event) (a ∷ b ∷ c ∷ d ∷ e ∷ f ∷ []) = refl
mover_sends (Receive zero event) (a ∷ b ∷ c ∷ d ∷ e ∷ f ∷ more ∷ rest) = refl

meter_sends : (call : Call) (state : List ℤ) → IsTrue (leave_by_outputs Meter (meter call state).replies)
meter_sends Initialize state = refl
meter_sends Settle state = refl
meter_sends (Receive zero event) state = refl
meter_sends (Receive (suc input) event) state = refl

pub sends_by_outputs : SendsByOutputs
sends_by_outputs Counter = counter_sends
sends_by_outputs Gate = gate_sends
sends_by_outputs Adder = adder_sends
sends_by_outputs Batch = batch_sends
sends_by_outputs Mover = mover_sends
sends_by_outputs Meter = meter_sends
