-- When an input may be numbered, and the inputs from a floor on.
use Rattle.std.proofs.Common.{◌≡◌, ℕ, zero, suc, ◌^◌, ◌-◌, ◌+◌, ◌<◌, ◌≤◌, ℤ, pos, ◌≤ℤ◌, ◌<ℤ◌, true, List, drop, refl, ap, sym, ◌∙◌, arith}
use Rattle.std.specs.Prelude.{Option, None, slice_get, int_le, nat_lt}
use Rattle.std.proofs.lemmas.Bool.{le-leb, lt-ltb, le-ltb, cond-true, cond-false}
use Rattle.std.proofs.lemmas.Bool.Decides.{nat_tests}
use Rattle.std.proofs.lemmas.Int.{ints}
use Rattle.std.proofs.lemmas.List.{drop-drop}
use Rattle.x3d_values.specs.Ranges.{is_input_number, is_input_time, max_inputs}
use Rattle.x3d_values.specs.Stamp.{StampedView}
use Rattle.share_law.specs.Parts.{fault_behind}
use Rattle.share_core.specs.Host.{HostInputsView, entry}

pub fault_behind_none : (count : ℕ) (last t : ℤ) → fault_behind count last t ≡ None → (count < max_inputs) × (last <ℤ t) × (t ≤ℤ pos (10 ^ 18))
unfolding fault_behind
fault_behind_none count last t h = (grind (arith, nat_tests, ints), grind (arith, nat_tests, ints), grind (arith, nat_tests, ints))

pub number_ok : (count : ℕ) (last t : ℤ) → fault_behind count last t ≡ None → is_input_number (count + 1) ≡ true
number_ok count last t free = let facts = fault_behind_none count last t free in rw (le-leb 1 (count + 1) (omega arith)) (rw (le-leb (count + 1) max_inputs (omega (arith, facts.0))) refl)

pub time_ok : (count : ℕ) (last t : ℤ) → pos 0 ≤ℤ last → fault_behind count last t ≡ None → is_input_time t ≡ true
time_ok count last t from free =
    let facts = fault_behind_none count last t free in
    let later : last <ℤ t = facts.1 in
    let small : t ≤ℤ pos (10 ^ 18) = facts.2 in
    let low : int_le (pos 1) t ≡ true = grind (arith, ints) in
    let high : int_le t (pos (10 ^ 18)) ≡ true = grind (arith, ints) in
    rw low (rw high refl)

-- ---- an input is looked up

pub entry_below : (e : HostInputsView) (n : ℕ) → n < e.floor → None ≡ entry e n
entry_below e zero low = refl
entry_below e (suc n) low =
    let none : Option StampedView = None in
    sym (cond-true (nat_lt (suc n) e.floor) none (slice_get e.rest (suc n - e.floor)) (lt-ltb (suc n) e.floor low))

pub entry_from : (e : HostInputsView) (n : ℕ) → 1 ≤ e.floor → e.floor ≤ n → slice_get e.rest (n - e.floor) ≡ entry e n
entry_from e zero one from = absurd (omega (arith, one, from))
entry_from e (suc n) one from =
    let none : Option StampedView = None in
    sym (cond-false (nat_lt (suc n) e.floor) none (slice_get e.rest (suc n - e.floor)) (le-ltb (suc n) e.floor from))

-- ---- inputs leave

-- the first so many have left, and then one more
pub one_less : (n : ℕ) (whole left now : List StampedView) → left ≡ drop n whole → now ≡ drop 1 left → now ≡ drop (n + 1) whole
one_less n whole left now so_far one =
    one ∙ ap (drop 1) so_far ∙ drop-drop 1 n whole
