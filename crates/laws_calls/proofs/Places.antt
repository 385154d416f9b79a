-- Two lists that agree place by place, and the last item of a list.
use Rattle.std.proofs.Common.{◌≡◌, ℕ, zero, suc, List, [], ◌∷◌, ◌++◌, length, refl, sym}
use Rattle.std.specs.Prelude.{slice_get, slice_set, Option, None, Some}
use Rattle.std.specs.Option.{option_map}
use Rattle.std.proofs.lemmas.Option.{none-some, same_Some}

-- an item is replaced in both lists
pub set_both : {X Y : Type 0} (f : ℕ → X → Y) (xs : List X) (ys : List Y) (v : ℕ) (x : X) (u : ℕ)
    → ((k : ℕ) → slice_get ys k ≡ option_map (f k) (slice_get xs k))
    → slice_get (slice_set ys v (f v x)) u ≡ option_map (f u) (slice_get (slice_set xs v x) u)
set_both f [] [] v x u h = refl
set_both f [] (y ∷ ys) v x u h = absurd (none-some y (sym (h 0)))
set_both f (z ∷ xs) [] v x u h = absurd (none-some (f 0 z) (h 0))
set_both f (z ∷ xs) (y ∷ ys) zero x zero h = refl
set_both f (z ∷ xs) (y ∷ ys) zero x (suc u) h = h (suc u)
set_both f (z ∷ xs) (y ∷ ys) (suc v) x zero h = h 0
set_both f (z ∷ xs) (y ∷ ys) (suc v) x (suc u) h = set_both (λ k. f (suc k)) xs ys v x u (λ k. h (suc k))

-- an item that is mapped from one is there
pub mapped_from : {X Y : Type 0} (f : X → Y) (o : Option X) (y : Y) → Some y ≡ option_map f o → (x : X) × (o ≡ Some x) × (f x ≡ y)
mapped_from f None y e = absurd (none-some y (sym e))
mapped_from f (Some x) y e = (x, refl, same_Some (f x) y (sym e))

-- the item that was appended is the last
pub last_there : {X : Type 0} (xs : List X) (x : X) → slice_get (xs ++ x ∷ []) (length xs) ≡ Some x
last_there [] x = refl
last_there (y ∷ xs) x = last_there xs x

-- an answer that is mapped twice
pub twice : {A B C : Type 0} (o : Option A) (f : A → B) (g : B → C) → option_map g (option_map f o) ≡ option_map (λ a. g (f a)) o
twice None f g = refl
twice (Some a) f g = refl
