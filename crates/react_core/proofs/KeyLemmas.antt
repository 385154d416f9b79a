-- Where rising keys pass a fraction.
use Rattle.std.proofs.Common.{◌≡◌, refl, ℕ, zero, suc, ◌+◌, ◌-◌, ◌<◌, ◌≤◌, ℤ, pos, ◌≤ℤ◌, int_le, Bool, true, false, List, [], ◌∷◌, length, get_or, count_by, arith}
use Rattle.std.proofs.lemmas.Grind.{common_steps}
use Rattle.std.proofs.lemmas.List.Sums.{sum_by-cons}
use Rattle.std.proofs.lemmas.Int.{ints}
use Rattle.react_core.specs.Keys.{are_rising, rise_from, reached, IsKeyAt}

-- the count of the items that pass, where those in front pass and no other
pub count_by-front : {X : Type 0} (p : X → Bool) (xs : List X) (i : ℕ) (d : X) → i ≤ length xs → ((k : ℕ) → k < i → p (get_or xs k d) ≡ true) → ((k : ℕ) → i ≤ k → k < length xs → p (get_or xs k d) ≡ false) → count_by p xs ≡ i
count_by-front p [] zero d h in_front behind = refl
count_by-front p [] (suc i) d h in_front behind = absurd (omega arith)
count_by-front p (x ∷ xs) zero d h in_front behind =
    let here = behind 0 (omega arith) (omega arith) in
    let rest = count_by-front p xs 0 d (omega arith) (λ k l. absurd (omega arith)) (λ k l m. behind (suc k) (omega arith) (omega arith)) in
    grind (arith, common_steps, sum_by-cons)
count_by-front p (x ∷ xs) (suc i) d h in_front behind =
    let here = in_front 0 (omega arith) in
    let rest = count_by-front p xs i d (omega arith) (λ k l. in_front (suc k) (omega arith)) (λ k l m. behind (suc k) (omega arith) (omega arith)) in
    grind (arith, common_steps, sum_by-cons)

rise_from-first : (low key : ℤ) (keys : List ℤ) → rise_from low (key ∷ keys) ≡ true → (low ≤ℤ key) × (rise_from key keys ≡ true)
rise_from-first low key keys h = (grind (arith, ints), grind (arith, ints))

-- a key behind another isn't below it
pub rise_from-above : (low : ℤ) (keys : List ℤ) (d : ℤ) (k : ℕ) → rise_from low keys ≡ true → k < length keys → low ≤ℤ get_or keys k d
rise_from-above low [] d k h l = absurd (omega arith)
rise_from-above low (key ∷ keys) d zero h l = (rise_from-first low key keys h).0
rise_from-above low (key ∷ keys) d (suc k) h l =
    let first = rise_from-first low key keys h in
    let rest = rise_from-above key keys d k first.1 (omega arith) in
    omega (arith, ints)

pub rise_from-order : (low : ℤ) (keys : List ℤ) (d : ℤ) (i j : ℕ) → rise_from low keys ≡ true → i ≤ j → j < length keys → get_or keys i d ≤ℤ get_or keys j d
rise_from-order low [] d i j h o l = absurd (omega arith)
rise_from-order low (key ∷ keys) d zero zero h o l = omega (arith, ints)
rise_from-order low (key ∷ keys) d zero (suc j) h o l = rise_from-above key keys d j (rise_from-first low key keys h).1 (omega arith)
rise_from-order low (key ∷ keys) d (suc i) zero h o l = absurd (omega arith)
rise_from-order low (key ∷ keys) d (suc i) (suc j) h o l = rise_from-order key keys d i j (rise_from-first low key keys h).1 (omega arith) (omega arith)

pub are_rising-order : (keys : List ℤ) (d : ℤ) (i j : ℕ) → are_rising keys ≡ true → i ≤ j → j < length keys → get_or keys i d ≤ℤ get_or keys j d
are_rising-order [] d i j h o l = absurd (omega arith)
are_rising-order (key ∷ keys) d zero zero h o l = omega (arith, ints)
are_rising-order (key ∷ keys) d zero (suc j) h o l = rise_from-above key keys d j h (omega arith)
are_rising-order (key ∷ keys) d (suc i) zero h o l = absurd (omega arith)
are_rising-order (key ∷ keys) d (suc i) (suc j) h o l = rise_from-order key keys d i j h (omega arith) (omega arith)

-- the keys in front of a place are reached by the fraction, and those from it on aren't
pub record IsPassedAt (keys : List ℤ) (fraction : ℤ) (low high : ℕ) : Type 0 where
  pub in_order : low ≤ high
  pub within : high ≤ length keys
  pub in_front : (k : ℕ) → k < low → int_le (get_or keys k (pos 0)) fraction ≡ true
  pub behind : (k : ℕ) → high ≤ k → k < length keys → int_le (get_or keys k (pos 0)) fraction ≡ false

pub passed-up : (keys : List ℤ) (fraction : ℤ) (low high middle : ℕ) → are_rising keys ≡ true → IsPassedAt keys fraction low high → middle < high → int_le (get_or keys middle (pos 0)) fraction ≡ true → IsPassedAt keys fraction (middle + 1) high
passed-up keys fraction low high middle rising p m h =
    let w = p.within in
    record {
      in_order = omega arith;
      within = p.within;
      in_front = λ k l. let o = are_rising-order keys (pos 0) k middle rising (omega arith) (omega arith) in grind (arith, ints);
      behind = p.behind;
    }

pub passed-down : (keys : List ℤ) (fraction : ℤ) (low high middle : ℕ) → are_rising keys ≡ true → IsPassedAt keys fraction low high → low ≤ middle → middle < high → int_le (get_or keys middle (pos 0)) fraction ≡ false → IsPassedAt keys fraction low middle
passed-down keys fraction low high middle rising p o m h =
    let w = p.within in
    record {
      in_order = o;
      within = omega arith;
      in_front = p.in_front;
      behind = λ k l n. let r = are_rising-order keys (pos 0) middle k rising l n in grind (arith, ints);
    }

pub reached-passed : (keys : List ℤ) (fraction : ℤ) (low high : ℕ) → IsPassedAt keys fraction low high → high ≤ low → reached keys fraction ≡ low
reached-passed keys fraction low high p h =
    let w = p.within in
    let o = p.in_order in
    count_by-front (λ key. int_le key fraction) keys low (pos 0) (omega arith) p.in_front (λ k l m. p.behind k (omega arith) m)

-- the place before the one where keys pass a fraction
pub IsKeyAt-passed : (keys : List ℤ) (fraction : ℤ) (low : ℕ) → 0 < length keys → IsPassedAt keys fraction low low → IsKeyAt keys fraction (low - 1)
IsKeyAt-passed keys fraction low some p =
    let w = p.within in
    record {
      below = omega arith;
      is_reached = λ l. let h = p.in_front (low - 1) (omega arith) in grind (arith, ints);
      is_last = λ k l m. let h = p.behind k (omega arith) m in grind (arith, ints);
    }
