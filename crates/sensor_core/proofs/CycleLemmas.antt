-- Cycles of whole microseconds.
use Rattle.std.proofs.Common.{◌≡◌, ◌∙◌, sym, refl, ap, ℕ, zero, suc, ◌+◌, ◌*◌, ◌/◌, ◌%◌, ◌<◌, ◌≤◌, ℤ, pos, negsuc, ◌+ℤ◌, ◌-ℤ◌, ◌*ℤ◌, ◌≤ℤ◌, ◌<ℤ◌, unsigned_abs, int_lt, int_le, Bool, true, false, ◌&&◌, ◌==◌, ◌≢◌, Some, None, if◌then◌else◌, arith}
use Rattle.std.proofs.lemmas.Int.{ints}
use Rattle.std.specs.Int.{int_div_euclid, int_rem_euclid}
use Rattle.std.specs.Option.{option_map}
use Rattle.sensor_core.specs.Cycles.{cycle_at, cycle_time, cycle_end, fraction_at, part_of_cycle}

-- a time is whole cycles and what is left
div_rem_pos : (a b : ℕ) → 0 < b → a / b * b + a % b ≡ a
div_rem_pos a b h = grind arith

rem_small : (a b : ℕ) → 0 < b → a % b < b
rem_small a b h = grind arith

pub div_rem_euclid : (z d : ℤ) → pos 0 <ℤ d → (int_div_euclid z d *ℤ d) ≡ (z -ℤ int_rem_euclid z d)
div_rem_euclid (pos a) (pos b) h = let e = div_rem_pos a b (omega (arith, ints)) in omega (arith, ints)
div_rem_euclid (negsuc a) (pos zero) h = absurd (omega (arith, ints))
div_rem_euclid (negsuc a) (pos (suc b)) h =
    let e = div_rem_pos a (suc b) (omega arith) in
    let r = rem_small a (suc b) (omega arith) in
    omega (arith, ints)
div_rem_euclid (pos a) (negsuc b) h = absurd (omega (arith, ints))
div_rem_euclid (negsuc a) (negsuc b) h = absurd (omega (arith, ints))

pub cycle_time-rest : (start interval t rest : ℤ) → pos 0 <ℤ interval → rest ≡ int_rem_euclid (t -ℤ start) interval → (t -ℤ rest) ≡ cycle_time start interval t
unfolding cycle_time cycle_at
cycle_time-rest start interval t rest h e =
    let d = div_rem_euclid (t -ℤ start) interval h in
    let f : (t -ℤ rest) ≡ (start +ℤ ((t -ℤ start) -ℤ int_rem_euclid (t -ℤ start) interval)) = omega (arith, ints) in
    f ∙ ap (λ z. start +ℤ z) (sym d)

pub cycle_end-length : (start interval : ℤ) (cycle : ℕ) → pos 0 <ℤ interval → cycle_end start interval cycle ≡ (start +ℤ pos ((cycle + 1) * unsigned_abs interval))
unfolding cycle_end
cycle_end-length start (pos n) cycle h = refl
cycle_end-length start (negsuc n) cycle h = absurd (omega (arith, ints))

option_map-if : {X Y : Type 0} (f : X → Y) (b : Bool) (x : X) → option_map f (if b then Some x else None) ≡ (if b then Some (f x) else None)
option_map-if f true x = refl
option_map-if f false x = refl

le_shift : (start t : ℤ) (n : ℕ) → int_le (pos n) (t -ℤ start) ≡ int_le (start +ℤ pos n) t
le_shift start t n = grind (arith, ints)

-- a cycle has ended where its length has gone by since the start
pub ended : (start interval t : ℤ) (cycle : ℕ) → pos 0 <ℤ interval → option_map (λ length. start +ℤ length) (if int_le (pos ((cycle + 1) * unsigned_abs interval)) (t -ℤ start) then Some (pos ((cycle + 1) * unsigned_abs interval)) else None) ≡ (if int_le (cycle_end start interval cycle) t then Some (cycle_end start interval cycle) else None)
ended start interval t cycle h =
    let n = (cycle + 1) * unsigned_abs interval in
    option_map-if (λ length. start +ℤ length) (int_le (pos n) (t -ℤ start)) (pos n)
    ∙ (ap (λ b. if b then Some (start +ℤ pos n) else None) (le_shift start t n) ∙ ap (λ z. if int_le z t then Some z else None) (sym (cycle_end-length start interval cycle h)))

if-false : {X : Type 0} (b : Bool) (x y : X) → b ≡ false → (if b then x else y) ≡ y
if-false true x y e = cc
if-false false x y e = refl

and-false_left : (a b : Bool) → a ≡ false → (a && b) ≡ false
and-false_left true b e = cc
and-false_left false b e = refl

and-false_right : (a b : Bool) → b ≡ false → (a && b) ≡ false
and-false_right true b e = e
and-false_right false b e = refl

pub fraction_at-early : (start interval x : ℤ) → x ≤ℤ start → fraction_at start interval x ≡ part_of_cycle (x -ℤ start) interval
unfolding fraction_at
fraction_at-early start interval x h =
    let e : int_lt start x ≡ false = grind (arith, ints) in
    if-false _ _ _ (and-false_left (int_lt start x) _ e)

pub fraction_at-inside : (start interval x : ℤ) → unsigned_abs (int_rem_euclid (x -ℤ start) interval) ≢ 0 → fraction_at start interval x ≡ part_of_cycle (x -ℤ start) interval
unfolding fraction_at
fraction_at-inside start interval x h =
    let e : (unsigned_abs (int_rem_euclid (x -ℤ start) interval) == 0) ≡ false = grind arith in
    if-false _ _ _ (and-false_right (int_lt start x) _ e)
