-- A list that is made node by node.
use Rattle.std.proofs.Common.{◌≡◌, ℕ, ◌+◌, ◌-◌, ◌<◌, List, [], ◌∷◌, ◌++◌, Option, Some, None, refl, arith, suc, append_assoc}
use Rattle.std.specs.List.{cons_option, filter_map, range_with_len}

range_step : (n k m : ℕ) → k ≡ suc m → range_with_len n k ≡ n ∷ range_with_len (n + 1) m
range_step n k m e = rw e refl

cons_behind : {A : Type 0} (taken : List A) (one : Option A) (rest : List A) →
    (taken ++ cons_option one []) ++ rest ≡ taken ++ cons_option one rest
cons_behind taken (Some x) rest = append_assoc taken (x ∷ []) rest
cons_behind taken None rest = append_assoc taken [] rest

-- the next number gives one item, or none
pub next_listed : {A : Type 0} (f : ℕ → Option A) (taken : List A) (n end : ℕ) → n < end →
    (taken ++ cons_option (f n) []) ++ filter_map f (range_with_len (n + 1) (end - (n + 1)))
    ≡ taken ++ filter_map f (range_with_len n (end - n))
next_listed f taken n end h =
    let e : end - n ≡ suc (end - (n + 1)) = omega arith in
    rw (range_step n (end - n) (end - (n + 1)) e) (cons_behind taken (f n) _)
