-- Tests that hold together, and tests of all items of a list.
use Rattle.std.proofs.Common.{◌≡◌, Bool, true, false, ◌&&◌, List, [], ◌∷◌, refl}
use Rattle.std.specs.List.{AllByRecursion, list_all}

pub both : (a b : Bool) → (a && b) ≡ true → (a ≡ true) × (b ≡ true)
both true b e = (refl, e)
both false b e = absurd cc

pub and_true : (a b : Bool) → a ≡ true → b ≡ true → (a && b) ≡ true
and_true a b p q = rw (p, q) refl

-- each item passes, so each has what the test tells of it
pub each_told : {A : Type 0} (p : A → Bool) (P : A → Type 0) → ((x : A) → p x ≡ true → P x) → (xs : List A) → list_all p xs ≡ true
    → AllByRecursion P xs
each_told p P k [] h = tt
each_told p P k (x ∷ xs) h = let b = both (p x) (list_all p xs) h in (k x b.0, each_told p P k xs b.1)
