-- Facts of all items of a list, and of one item.
use Rattle.std.proofs.Common.{◌≡◌, length, refl, ap, arith, length-append, ℕ, zero, suc, List, [], ◌∷◌, ◌++◌, map, Option, Some, None, slice_get, slice_set}
use Rattle.std.specs.List.{AllByRecursion, flat_map}

pub all_push : {A : Type 0} (P : A → Type 0) (xs : List A) (x : A) → AllByRecursion P xs → P x → AllByRecursion P (xs ++ x ∷ [])
all_push P [] x h k = (k, tt)
all_push P (y ∷ ys) x h k = (h.0, all_push P ys x h.1 k)

pub all_append : {A : Type 0} (P : A → Type 0) (xs ys : List A) → AllByRecursion P xs → AllByRecursion P ys → AllByRecursion P (xs ++ ys)
all_append P [] ys h k = k
all_append P (x ∷ xs) ys h k = (h.0, all_append P xs ys h.1 k)

pub all_split : {A : Type 0} (P : A → Type 0) (xs ys : List A) → AllByRecursion P (xs ++ ys) → AllByRecursion P xs × AllByRecursion P ys
all_split P [] ys h = (tt, h)
all_split P (x ∷ xs) ys h = let r = all_split P xs ys h.1 in ((h.0, r.0), r.1)

pub all_weaker : {A : Type 0} (P Q : A → Type 0) → ((x : A) → P x → Q x) → (xs : List A) → AllByRecursion P xs → AllByRecursion Q xs
all_weaker P Q k [] h = tt
all_weaker P Q k (x ∷ xs) h = (k x h.0, all_weaker P Q k xs h.1)

pub all_map : {A B : Type 0} (f : A → B) (P : A → Type 0) (Q : B → Type 0) → ((x : A) → P x → Q (f x)) → (xs : List A) → AllByRecursion P xs
    → AllByRecursion Q (map f xs)
all_map f P Q k [] h = tt
all_map f P Q k (x ∷ xs) h = (k x h.0, all_map f P Q k xs h.1)

pub all_flat : {A B : Type 0} (f : A → List B) (P : A → Type 0) (Q : B → Type 0) → ((x : A) → P x → AllByRecursion Q (f x)) → (xs : List A) → AllByRecursion P xs
    → AllByRecursion Q (flat_map f xs)
all_flat f P Q k [] h = tt
all_flat f P Q k (x ∷ xs) h = all_append Q (f x) (flat_map f xs) (k x h.0) (all_flat f P Q k xs h.1)

-- ---- an item at a place

abbrev pub IfSome : {A : Type 0} → (A → Type 0) → Option A → Type 0
IfSome P None = Unit {0}
IfSome P (Some a) = P a

pub at_all : {A : Type 0} (P : A → Type 0) (xs : List A) (n : ℕ) → AllByRecursion P xs → IfSome P (slice_get xs n)
at_all P [] n h = tt
at_all P (x ∷ xs) zero h = h.0
at_all P (x ∷ xs) (suc n) h = at_all P xs n h.1

pub all_set : {A : Type 0} (P : A → Type 0) (xs : List A) (n : ℕ) (x : A) → AllByRecursion P xs → P x → AllByRecursion P (slice_set xs n x)
all_set P [] n x h k = tt
all_set P (y ∷ ys) zero x h k = (k, h.1)
all_set P (y ∷ ys) (suc n) x h k = (h.0, all_set P ys n x h.1 k)

-- ---- an item in the middle, or at the end

pub set_middle : {A : Type 0} (xs ys : List A) (x y : A) → slice_set (xs ++ x ∷ ys) (length xs) y ≡ xs ++ y ∷ ys
set_middle [] ys x y = refl
set_middle (z ∷ xs) ys x y = ap (λ (rest : List _). z ∷ rest) (set_middle xs ys x y)

pub get_middle : {A : Type 0} (xs ys : List A) (x : A) → slice_get (xs ++ x ∷ ys) (length xs) ≡ Some x
get_middle [] ys x = refl
get_middle (z ∷ xs) ys x = get_middle xs ys x

pub one_longer : {A B : Type 0} (xs : List A) (ys : List B) (x : A) (y : B) → length xs ≡ length ys → length (xs ++ x ∷ []) ≡ length (ys ++ y ∷ [])
one_longer xs ys x y e = omega (arith, e, length-append xs (x ∷ []), length-append ys (y ∷ []))

pub same_length : {A : Type 0} (xs ys : List A) (x y : A) → length (xs ++ x ∷ ys) ≡ length (xs ++ y ∷ ys)
same_length xs ys x y = omega (arith, length-append xs (x ∷ ys), length-append xs (y ∷ ys))
