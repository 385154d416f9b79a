-- What a call does keeps the state of its kind, and sends what fits the outputs.
use Rattle.std.proofs.Common.{◌≡◌, ℕ, zero, suc, ◌+◌, ◌-◌, ◌*◌, ◌^◌, ◌≤◌, ◌<◌, ℤ, pos, negsuc, neg_ℤ, ◌+ℤ◌, ◌-ℤ◌, ◌*ℤ◌, int_lt, unsigned_abs, Bool, true, false, if◌then◌else◌, List, [], ◌∷◌, ◌++◌, length, drop, Some, None, nat_le, refl, arith, lt-ltb, le-leb, leb-true, length-append, length-drop}
use Rattle.std.specs.Int.{int_max, int_div_euclid, saturate_signed, w32}
use Rattle.std.specs.List.{fold, list_all}
use Rattle.std.proofs.lemmas.Int.{ints}
use Rattle.std.proofs.lemmas.Nat.{div_below}
use Rattle.byte_codec.specs.Codec.{fits_signed}
use Rattle.byte_codec.proofs.Laws.{both, and_true}
use Rattle.x3d_values.specs.Ranges.{coordinate_fits}
use Rattle.x3d_values.specs.declared.field_type.FieldType.TheVariants as types
use Rattle.x3d_values.specs.declared.script.Kind.{Kind}
use Rattle.x3d_values.specs.declared.script.Kind.TheVariants.{Counter, Gate, Adder, Batch, Mover, Meter}
use Rattle.snapshot_codec.specs.Values.{value_fits, vector3}
use Rattle.script_host.specs.Behaviour.{Call, Initialize, Receive, Settle, behave, clamped, counted, is_one, last_eight, mean, metered, next_count, number_of, one_more, part_way, sends}
use Rattle.script_host.specs.Events.{event_fits, number_fits}
use Rattle.script_host.specs.States.{integer_fits, pending_fits, range_fault, meter_fault, state_fault}
use Rattle.script_slots.specs.declared.fault.StateFault.TheVariants.{StateLength}
use Rattle.script_running.specs.Values.{as_integer}
use Rattle.laws_worlds.specs.Calls.{AnswerFits, CallsFit, call_fits}

-- ---- numbers

pub in_range : (b : Bool) → range_fault b ≡ None → b ≡ true
in_range true h = refl
in_range false h = absurd cc

pub no_fault : (b : Bool) → b ≡ true → range_fault b ≡ None
no_fault true h = refl
no_fault false h = absurd cc

integer_high : (z : ℤ) (b : Bool) → int_lt (pos (2 ^ 31 - 1)) z ≡ b → fits_signed w32 (int_max (neg_ℤ (pos (2 ^ 31))) (if b then pos (2 ^ 31 - 1) else z)) ≡ true
integer_high z true e = refl
integer_high z false e = integer_low (int_lt z (neg_ℤ (pos (2 ^ 31)))) refl
  where
    from : (y : ℤ) → int_lt y (neg_ℤ (pos (2 ^ 31))) ≡ false → int_lt (pos (2 ^ 31 - 1)) y ≡ false → fits_signed w32 y ≡ true
    from (pos n) l h = let few : n < 2 ^ 31 = grind (arith, ints) in lt-ltb n (2 ^ 31) few
    from (negsuc n) l h = let few : n < 2 ^ 31 = grind (arith, ints) in lt-ltb n (2 ^ 31) few

    integer_low : (c : Bool) → int_lt z (neg_ℤ (pos (2 ^ 31))) ≡ c → fits_signed w32 (if c then neg_ℤ (pos (2 ^ 31)) else z) ≡ true
    integer_low true l = refl
    integer_low false l = from z l e

-- a script sends 32 bits
integer_sent : (z : ℤ) → fits_signed w32 (as_integer z) ≡ true
integer_sent z = integer_high z (int_lt (pos (2 ^ 31 - 1)) z) refl

saturated : (z : ℤ) → integer_fits (saturate_signed w32 z) ≡ true
saturated z = grind (arith, ints)

clamped_low : (z : ℤ) (b : Bool) → int_lt z (neg_ℤ (pos (10 ^ 15))) ≡ b → int_lt (pos (10 ^ 15)) z ≡ false → coordinate_fits (if b then neg_ℤ (pos (10 ^ 15)) else z) ≡ true
clamped_low z true e h = refl
clamped_low z false e h = le-leb (unsigned_abs z) (10 ^ 15) (grind (arith, ints))

clamped_high : (z : ℤ) (b : Bool) → int_lt (pos (10 ^ 15)) z ≡ b → coordinate_fits (int_max (neg_ℤ (pos (10 ^ 15))) (if b then pos (10 ^ 15) else z)) ≡ true
clamped_high z true e = refl
clamped_high z false e = clamped_low z (int_lt z (neg_ℤ (pos (10 ^ 15)))) refl e

clamped_fits : (z : ℤ) → coordinate_fits (clamped z) ≡ true
clamped_fits z = clamped_high z (int_lt (pos (10 ^ 15)) z) refl

part_fits : (fraction from to : ℤ) → coordinate_fits (part_way fraction from to) ≡ true
unfolding part_way
part_fits fraction from to = clamped_fits (from +ℤ int_div_euclid (fraction *ℤ (to -ℤ from)) (pos (10 ^ 6)))

one_more_fits : (z : ℤ) → pending_fits z ≡ true → pending_fits (one_more z) ≡ true
one_more_fits (pos n) f = grind (arith, ints)
one_more_fits (negsuc n) f = absurd cc

-- ---- means

sum_small : (readings : List ℤ) (from : ℤ) (most : ℕ) → unsigned_abs from ≤ most → list_all coordinate_fits readings ≡ true →
    unsigned_abs (fold ◌+ℤ◌ from readings) ≤ most + length readings * 10 ^ 15
sum_small [] from most h f = omega (arith, h)
sum_small (x ∷ xs) from most h f =
    let b = both (coordinate_fits x) (list_all coordinate_fits xs) f in
    let small : unsigned_abs x ≤ 10 ^ 15 = leb-true _ _ b.0 in
    let next : unsigned_abs (from +ℤ x) ≤ most + 10 ^ 15 = omega (arith, ints, h, small) in
    let rest = sum_small xs (from +ℤ x) (most + 10 ^ 15) next b.1 in
    omega (arith, rest)

quotient_small : (z : ℤ) (n : ℕ) → 0 < n → unsigned_abs z ≤ n * 10 ^ 15 → unsigned_abs (int_div_euclid z (pos n)) ≤ 10 ^ 15
quotient_small (pos a) n some h =
    let below = div_below a n (10 ^ 15 + 1) some (omega (arith, h, some)) in
    omega (arith, below)
quotient_small (negsuc a) n some h =
    let below = div_below a n (10 ^ 15) some (omega (arith, h)) in
    omega (arith, below)

mean_fits : (readings : List ℤ) → 0 < length readings → list_all coordinate_fits readings ≡ true → coordinate_fits (mean readings) ≡ true
mean_fits readings some f =
    let sum = sum_small readings (pos 0) 0 (omega arith) f in
    le-leb _ _ (quotient_small (fold ◌+ℤ◌ (pos 0) readings) (length readings) some (omega (arith, sum)))

all_behind : (xs : List ℤ) (x : ℤ) → list_all coordinate_fits xs ≡ true → coordinate_fits x ≡ true → list_all coordinate_fits (xs ++ x ∷ []) ≡ true
all_behind [] x f g = and_true _ _ g refl
all_behind (y ∷ xs) x f g = let b = both (coordinate_fits y) (list_all coordinate_fits xs) f in and_true _ _ b.0 (all_behind xs x b.1 g)

all_dropped : (n : ℕ) (xs : List ℤ) → list_all coordinate_fits xs ≡ true → list_all coordinate_fits (drop n xs) ≡ true
all_dropped zero xs f = f
all_dropped (suc n) [] f = refl
all_dropped (suc n) (x ∷ xs) f = all_dropped n xs (both (coordinate_fits x) (list_all coordinate_fits xs) f).1

-- ---- events

event_number : (t : _) (event : List ℤ) → event_fits t event ≡ true → number_fits t (number_of event) ≡ true
event_number t (x ∷ (y ∷ (z ∷ []))) f = (both (number_fits t x) _ f).0
event_number t [] f = absurd cc
event_number t (x ∷ []) f = absurd cc
event_number t (x ∷ (y ∷ [])) f = absurd cc
event_number t (x ∷ (y ∷ (z ∷ (w ∷ more)))) f = absurd cc

-- ---- each kind

abbrev Keeps : Kind → Type 0
Keeps kind = (call : Call) (state : List ℤ) → state_fault kind state ≡ None → call_fits kind call ≡ true → AnswerFits kind (behave kind call state)

stays : (kind : Kind) (state : List ℤ) → state_fault kind state ≡ None → AnswerFits kind (record { state = state; replies = [] })
stays kind state f = record { in_state = f; in_replies = refl }

counter_fits : Keeps Counter
unfolding value_fits
counter_fits (Receive zero event) (count ∷ (step ∷ [])) f c = given (is_one (number_of event))
  where
    given : (b : Bool) → AnswerFits Counter (if b then counted (next_count count step) step else record { state = count ∷ step ∷ []; replies = [] })
    given true = record {
      in_state = no_fault _ (and_true _ _ (saturated (count +ℤ step)) (both (integer_fits count) (integer_fits step) (in_range _ f)).1);
      in_replies = and_true _ _ (integer_sent (next_count count step)) refl;
    }
    given false = record { in_state = f; in_replies = refl }
counter_fits _ state f c = stays Counter state f

gate_fits : Keeps Gate
unfolding value_fits
gate_fits Initialize (truth ∷ []) f c = record { in_state = f; in_replies = refl }
gate_fits (Receive zero event) (truth ∷ []) f c = record { in_state = no_fault _ (event_number types.SFBool event c); in_replies = refl }
gate_fits (Receive (suc zero) event) (truth ∷ []) f c = given (is_one truth)
  where
    given : (b : Bool) → AnswerFits Gate (if b then record { state = truth ∷ []; replies = sends 1 (number_of event) ∷ [] } else record { state = truth ∷ []; replies = [] })
    given true = record { in_state = f; in_replies = and_true _ _ (event_number types.SFTime event c) refl }
    given false = record { in_state = f; in_replies = refl }
gate_fits _ state f c = stays Gate state f

adder_fits : Keeps Adder
unfolding value_fits
adder_fits (Receive zero event) (a ∷ (b ∷ [])) f c = record {
  in_state = no_fault _ (and_true _ _ (event_number types.SFFloat event c) (both (coordinate_fits a) (coordinate_fits b) (in_range _ f)).1);
  in_replies = and_true _ _ (clamped_fits (number_of event +ℤ b)) refl;
}
adder_fits (Receive (suc zero) event) (a ∷ (b ∷ [])) f c = record {
  in_state = no_fault _ (and_true _ _ (both (coordinate_fits a) (coordinate_fits b) (in_range _ f)).0 (event_number types.SFFloat event c));
  in_replies = and_true _ _ (clamped_fits (a +ℤ number_of event)) refl;
}
adder_fits _ state f c = stays Adder state f

batch_fits : Keeps Batch
unfolding value_fits
batch_fits (Receive zero event) (pending ∷ []) f c = record { in_state = no_fault _ (one_more_fits pending (in_range _ f)); in_replies = refl }
batch_fits Settle (pending ∷ []) f c = record { in_state = refl; in_replies = and_true _ _ (integer_sent pending) refl }
batch_fits _ state f c = stays Batch state f

mover_fits : Keeps Mover
unfolding value_fits vector3
mover_fits (Receive zero event) (x ∷ (y ∷ (z ∷ (x' ∷ (y' ∷ (z' ∷ [])))))) f c = record {
  in_state = f;
  in_replies = and_true _ _ (and_true _ _ (part_fits (number_of event) x x') (and_true _ _ (part_fits (number_of event) y y') (part_fits (number_of event) z z'))) refl;
}
mover_fits _ state f c = stays Mover state f

pub meter_given : (readings : List ℤ) → meter_fault readings ≡ None → (length readings ≤ 8) × (list_all coordinate_fits readings ≡ true)
meter_given readings f = given (nat_le (length readings) 8) refl f
  where
    given : (b : Bool) → nat_le (length readings) 8 ≡ b → (if b then range_fault (list_all coordinate_fits readings) else Some StateLength) ≡ None → (length readings ≤ 8) × (list_all coordinate_fits readings ≡ true)
    given true e h = (leb-true _ _ e, in_range _ h)
    given false e h = absurd cc

meter_right : (readings : List ℤ) → length readings ≤ 8 → list_all coordinate_fits readings ≡ true → meter_fault readings ≡ None
meter_right readings few f = rw (le-leb (length readings) 8 few) (no_fault _ f)

metered_fits : (readings : List ℤ) → length readings ≤ 8 → 0 < length readings → list_all coordinate_fits readings ≡ true → AnswerFits Meter (metered readings)
unfolding value_fits
metered_fits readings few some f = record { in_state = meter_right readings few f; in_replies = and_true _ _ (mean_fits readings some f) refl }

meter_fits : Keeps Meter
meter_fits (Receive zero event) readings f c =
    let m = meter_given readings f in
    let all : List ℤ = readings ++ number_of event ∷ [] in
    let many = length-append readings (number_of event ∷ []) in
    let left = length-drop (length all - 8) all in
    metered_fits (last_eight all) (omega (arith, left, many, m.0)) (omega (arith, left, many, m.0))
    (all_dropped (length all - 8) all (all_behind readings (number_of event) m.1 (event_number types.SFFloat event c)))
meter_fits (Receive (suc input) event) readings f c = stays Meter readings f
meter_fits Initialize readings f c = stays Meter readings f
meter_fits Settle readings f c = stays Meter readings f

pub all_calls_fit : CallsFit
all_calls_fit Counter = counter_fits
all_calls_fit Gate = gate_fits
all_calls_fit Adder = adder_fits
all_calls_fit Batch = batch_fits
all_calls_fit Mover = mover_fits
all_calls_fit Meter = meter_fits
