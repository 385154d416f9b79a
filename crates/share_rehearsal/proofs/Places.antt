-- Two lists that agree place by place.
use Rattle.std.proofs.Common.{◌≡◌, ℕ, zero, suc, List, [], ◌∷◌, refl, sym}
use Rattle.std.specs.Prelude.{slice_get, slice_set}
use Rattle.std.specs.Option.{option_map}
use Rattle.std.proofs.lemmas.Option.{none-some}

-- where an element is put in the place of another, in both of two lists that agree place by place
pub set-both : {X Y : Type 0} (f : ℕ → X → Y) (xs : List X) (ys : List Y) (v : ℕ) (x : X) (u : ℕ)
    → ((k : ℕ) → slice_get ys k ≡ option_map (f k) (slice_get xs k))
    → slice_get (slice_set ys v (f v x)) u ≡ option_map (f u) (slice_get (slice_set xs v x) u)
set-both f [] [] v x u h = refl
set-both f [] (y ∷ ys) v x u h = absurd (none-some y (sym (h 0)))
set-both f (z ∷ xs) [] v x u h = absurd (none-some (f 0 z) (h 0))
set-both f (z ∷ xs) (y ∷ ys) zero x zero h = refl
set-both f (z ∷ xs) (y ∷ ys) zero x (suc u) h = h (suc u)
set-both f (z ∷ xs) (y ∷ ys) (suc v) x zero h = h 0
set-both f (z ∷ xs) (y ∷ ys) (suc v) x (suc u) h = set-both (λ k. f (suc k)) xs ys v x u (λ k. h (suc k))
