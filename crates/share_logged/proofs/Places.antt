-- The places of a list of entries.
use Rattle.std.proofs.Common.{◌≡◌, ℕ, zero, suc, ◌+◌, ◌<◌, ◌≤◌, List, [], ◌∷◌, ◌++◌, length, take, refl, ap, ◌∙◌, arith}
use Rattle.std.specs.Prelude.{slice_set}

take_set_suc : {A : Type 0} (xs : List A) (i : ℕ) (x : A) → i < length xs → take (suc i) (slice_set xs i x) ≡ take i xs ++ x ∷ []
take_set_suc [] i x lt = absurd (omega (arith, lt))
take_set_suc (y ∷ ys) zero x lt = refl
take_set_suc (y ∷ ys) (suc i) x lt = ap (λ l. y ∷ l) (take_set_suc ys i x (omega (arith, lt)))

pub take_set : {A : Type 0} (xs : List A) (i : ℕ) (x : A) → i < length xs → take (i + 1) (slice_set xs i x) ≡ take i xs ++ x ∷ []
take_set xs i x lt =
    let next : i + 1 ≡ suc i = omega arith in
    ap (λ n. take n (slice_set xs i x)) next ∙ take_set_suc xs i x lt

pub take_length : {A : Type 0} (xs : List A) (i : ℕ) → i ≤ length xs → length (take i xs) ≡ i
take_length xs zero le = refl
take_length [] (suc i) le = absurd (omega (arith, le))
take_length (x ∷ xs) (suc i) le = ap suc (take_length xs i (omega (arith, le)))

pub set_length : {A : Type 0} (xs : List A) (i : ℕ) (x : A) → length (slice_set xs i x) ≡ length xs
set_length [] i x = refl
set_length (y ∷ ys) zero x = refl
set_length (y ∷ ys) (suc i) x = ap suc (set_length ys i x)
