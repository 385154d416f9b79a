-- Items of lists by their places, where one more comes behind them or one of them is replaced.
use Rattle.std.proofs.Common.{◌≡◌, ℕ, zero, suc, ◌<◌, Bool, true, false, not, List, [], ◌∷◌, ◌++◌, length, map, Option, Some, slice_get, slice_set, refl, sym, ap, ◌⊎◌, inl, inr, arith}
use Rattle.std.specs.Prelude.{slice_index_or}
use Rattle.std.specs.List.{AllByRecursion}

abbrev pub In : {A : Type 0} → A → List A → Type 0
In x [] = ⊥
In x (y ∷ ys) = (x ≡ y) ⊎ In x ys

abbrev some : {A : Type 0} → A → Option A
some x = Some x

pub some_is : {A : Type 0} (x y : A) → some x ≡ some y → x ≡ y
some_is x y e = cc

pub in_append : {A : Type 0} (x : A) (xs ys : List A) → In x (xs ++ ys) → In x xs ⊎ In x ys
in_append x [] ys n = inr n
in_append x (z ∷ xs) ys (inl e) = inl (inl e)
in_append x (z ∷ xs) ys (inr n) = behind (in_append x xs ys n) where
  behind : In x xs ⊎ In x ys → In x (z ∷ xs) ⊎ In x ys
  behind (inl m) = inl (inr m)
  behind (inr m) = inr m

pub in_front : {A : Type 0} (x : A) (xs ys : List A) → In x xs → In x (xs ++ ys)
in_front x (z ∷ xs) ys (inl e) = inl e
in_front x (z ∷ xs) ys (inr n) = inr (in_front x xs ys n)
in_front x [] ys n = absurd n

pub in_back : {A : Type 0} (x : A) (xs ys : List A) → In x ys → In x (xs ++ ys)
in_back x [] ys n = n
in_back x (z ∷ xs) ys n = inr (in_back x xs ys n)

pub in_map : {A B : Type 0} (f : A → B) (y : B) (xs : List A) → In y (map f xs) → (x : A) × In x xs × (y ≡ f x)
in_map f y [] n = absurd n
in_map f y (x ∷ xs) (inl e) = (x, inl refl, e)
in_map f y (x ∷ xs) (inr n) = let r = in_map f y xs n in (r.0, inr r.1, r.2)

pub map_in : {A B : Type 0} (f : A → B) (x : A) (xs : List A) → In x xs → In (f x) (map f xs)
map_in f x [] n = absurd n
map_in f x (z ∷ xs) (inl e) = inl (ap f e)
map_in f x (z ∷ xs) (inr n) = inr (map_in f x xs n)

pub all_in : {A : Type 0} (P : A → Type 0) (xs : List A) → ((x : A) → In x xs → P x) → AllByRecursion P xs
all_in P [] k = tt
all_in P (x ∷ xs) k = (k x (inl refl), all_in P xs (λ y n. k y (inr n)))

pub index_is : {A : Type 0} (xs : List A) (n : ℕ) (x d : A) → slice_get xs n ≡ Some x → slice_index_or xs n d ≡ x
index_is [] n x d e = absurd cc
index_is (y ∷ ys) zero x d e = some_is y x e
index_is (y ∷ ys) (suc n) x d e = index_is ys n x d e

pub at_map : {A B : Type 0} (f : A → B) (xs : List A) (i : ℕ) (y : B) → slice_get (map f xs) i ≡ Some y → (x : A) × (slice_get xs i ≡ Some x) × (y ≡ f x)
at_map f [] i y e = absurd cc
at_map f (x ∷ xs) zero y e = (x, refl, sym (some_is (f x) y e))
at_map f (x ∷ xs) (suc i) y e = at_map f xs i y e

-- ---- one more item

-- an item is one of those that were there, or the one behind them
pub at_push : {A : Type 0} (xs : List A) (x : A) (i : ℕ) (y : A) → slice_get (xs ++ x ∷ []) i ≡ Some y
    → (slice_get xs i ≡ Some y) ⊎ ((i ≡ length xs) × (y ≡ x))
at_push [] x zero y e = inr (refl, some_is y x cc)
at_push [] x (suc i) y e = absurd cc
at_push (z ∷ zs) x zero y e = inl e
at_push (z ∷ zs) x (suc i) y e = behind (at_push zs x i y e) where
  behind : (slice_get zs i ≡ Some y) ⊎ ((i ≡ length zs) × (y ≡ x)) → (slice_get zs i ≡ Some y) ⊎ ((suc i ≡ suc (length zs)) × (y ≡ x))
  behind (inl h) = inl h
  behind (inr h) = inr (ap (λ n. suc n) h.0, h.1)

pub push_keeps : {A : Type 0} (xs : List A) (x : A) (i : ℕ) (y : A) → slice_get xs i ≡ Some y → slice_get (xs ++ x ∷ []) i ≡ Some y
push_keeps [] x i y e = absurd cc
push_keeps (z ∷ zs) x zero y e = e
push_keeps (z ∷ zs) x (suc i) y e = push_keeps zs x i y e

pub push_last : {A : Type 0} (xs : List A) (x : A) → slice_get (xs ++ x ∷ []) (length xs) ≡ Some x
push_last [] x = refl
push_last (z ∷ zs) x = push_last zs x

pub within : {A : Type 0} (xs : List A) (i : ℕ) (x : A) → slice_get xs i ≡ Some x → i < length xs
within [] i x e = absurd cc
within (z ∷ zs) zero x e = omega arith
within (z ∷ zs) (suc i) x e = let l = within zs i x e in omega (arith, l)

-- ---- another item in a place

pub length_set : {A : Type 0} (xs : List A) (n : ℕ) (x : A) → length (slice_set xs n x) ≡ length xs
length_set [] n x = refl
length_set (y ∷ ys) zero x = refl
length_set (y ∷ ys) (suc n) x = ap (λ k. suc k) (length_set ys n x)

pub set_here : {A : Type 0} (xs : List A) (n : ℕ) (x : A) → n < length xs → slice_get (slice_set xs n x) n ≡ Some x
set_here [] n x l = absurd (omega (arith, l))
set_here (y ∷ ys) zero x l = refl
set_here (y ∷ ys) (suc n) x l = set_here ys n x (omega (arith, l))

pub set_other : {A : Type 0} (xs : List A) (n m : ℕ) (x : A) → (m ≡ n → ⊥) → slice_get (slice_set xs n x) m ≡ slice_get xs m
set_other [] n m x k = refl
set_other (y ∷ ys) zero zero x k = absurd (k refl)
set_other (y ∷ ys) zero (suc m) x k = refl
set_other (y ∷ ys) (suc n) zero x k = refl
set_other (y ∷ ys) (suc n) (suc m) x k = set_other ys n m x (λ e. k (ap (λ j. suc j) e))

-- ---- marks: what is past the end counts as marked

abbrev pub IsMarked : List Bool → ℕ → Type 0
IsMarked marks n = not (slice_index_or marks n true) ≡ false

pub mark_keeps : (marks : List Bool) (n m : ℕ) → IsMarked marks m → IsMarked (slice_set marks n true) m
mark_keeps [] n m h = h
mark_keeps (b ∷ bs) zero zero h = refl
mark_keeps (b ∷ bs) zero (suc m) h = h
mark_keeps (b ∷ bs) (suc n) zero h = h
mark_keeps (b ∷ bs) (suc n) (suc m) h = mark_keeps bs n m h

pub mark_now : (marks : List Bool) (n : ℕ) → IsMarked (slice_set marks n true) n
mark_now [] n = refl
mark_now (b ∷ bs) zero = refl
mark_now (b ∷ bs) (suc n) = mark_now bs n

pub mark_was : (marks : List Bool) (n m : ℕ) → IsMarked (slice_set marks n true) m → (m ≡ n) ⊎ IsMarked marks m
mark_was [] n m h = inr h
mark_was (b ∷ bs) zero zero h = inl refl
mark_was (b ∷ bs) zero (suc m) h = inr h
mark_was (b ∷ bs) (suc n) zero h = inr h
mark_was (b ∷ bs) (suc n) (suc m) h = behind (mark_was bs n m h) where
  behind : (m ≡ n) ⊎ IsMarked bs m → (suc m ≡ suc n) ⊎ IsMarked bs m
  behind (inl e) = inl (ap (λ k. suc k) e)
  behind (inr k) = inr k

pub unmarked_within : (marks : List Bool) (n : ℕ) → not (slice_index_or marks n true) ≡ true → n < length marks
unmarked_within [] n h = absurd cc
unmarked_within (b ∷ bs) zero h = omega arith
unmarked_within (b ∷ bs) (suc n) h = let l = unmarked_within bs n h in omega (arith, l)
