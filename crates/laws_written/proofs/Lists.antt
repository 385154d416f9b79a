-- Facts of all items of a list, and what is made of each in turn.
use Rattle.std.proofs.Common.{◌≡◌, ℕ, zero, suc, ◌<◌, Bool, List, [], ◌∷◌, ◌++◌, length, map, take, fold, slice_get, Option, Some, subst, arith, get_or}
use Rattle.std.specs.List.{AllByRecursion}
use Rattle.std.proofs.lemmas.Option.{slice_get-get_or}
use Rattle.classic_round_trip.specs.Spellable.{AreSome}
use Rattle.scene_text.specs.Tree.{Grows, Makes, one_more, each}

pub all_push : {A : Type 0} (P : A → Type 0) (xs : List A) (x : A) → AllByRecursion P xs → P x → AllByRecursion P (xs ++ x ∷ [])
all_push P [] x h k = (k, tt)
all_push P (y ∷ ys) x h k = (h.0, all_push P ys x h.1 k)

pub all_append : {A : Type 0} (P : A → Type 0) (xs ys : List A) → AllByRecursion P xs → AllByRecursion P ys → AllByRecursion P (xs ++ ys)
all_append P [] ys h k = k
all_append P (x ∷ xs) ys h k = (h.0, all_append P xs ys h.1 k)

pub all_map : {A B : Type 0} (f : A → B) (P : A → Type 0) (Q : B → Type 0) → ((x : A) → P x → Q (f x)) → (xs : List A) → AllByRecursion P xs
    → AllByRecursion Q (map f xs)
all_map f P Q k [] h = tt
all_map f P Q k (x ∷ xs) h = (k x h.0, all_map f P Q k xs h.1)

pub all_weaker : {A : Type 0} (P Q : A → Type 0) → ((x : A) → P x → Q x) → (xs : List A) → AllByRecursion P xs → AllByRecursion Q xs
all_weaker P Q k [] h = tt
all_weaker P Q k (x ∷ xs) h = (k x h.0, all_weaker P Q k xs h.1)

pub all_take : {A : Type 0} (P : A → Type 0) (n : ℕ) (xs : List A) → AllByRecursion P xs → AllByRecursion P (take n xs)
all_take P zero xs h = tt
all_take P (suc n) [] h = tt
all_take P (suc n) (x ∷ xs) h = (h.0, all_take P n xs h.1)

abbrev some : {A : Type 0} → A → Option A
some x = Some x

pub some_is : {A : Type 0} (x y : A) → some x ≡ some y → x ≡ y
some_is x y e = cc

pub all_at : {A : Type 0} (P : A → Type 0) (xs : List A) (n : ℕ) (x : A) → AllByRecursion P xs → slice_get xs n ≡ Some x → P x
all_at P [] n x h e = absurd cc
all_at P (y ∷ ys) zero x h e = subst P (some_is y x e) h.0
all_at P (y ∷ ys) (suc n) x h e = all_at P ys n x h.1 e

pub found : {A : Type 0} (xs : List A) (n : ℕ) → n < length xs → (x : A) × (slice_get xs n ≡ Some x)
found [] n h = absurd (omega (arith, h))
found (x ∷ xs) n h = (get_or (x ∷ xs) n x, slice_get-get_or (x ∷ xs) n x h)

-- ---- what is made of each in turn

pub each_all : {A B : Type 0} (make : Makes A B) (Q : A → Type 0) (P : B → Type 0)
    → ((seen : List Bool) (x : A) → Q x → P (make seen x).made) → (s : Grows (List B)) (xs : List A) → AllByRecursion P s.made → AllByRecursion Q xs
    → AllByRecursion P (fold (one_more make) s xs).made
each_all make Q P k s [] a h = a
each_all make Q P k s (x ∷ xs) a h =
    each_all make Q P k (one_more make s x) xs (all_push P s.made (make s.seen x).made a (k s.seen x h.0)) h.1

are_some : {A : Type 0} (P : A → Type 0) (xs : List A) → AllByRecursion P xs → 0 < length xs → AreSome P xs
are_some P [] h k = absurd (omega (arith, k))
are_some P (x ∷ xs) h k = h

push_more : {A : Type 0} (xs : List A) (x : A) → 0 < length (xs ++ x ∷ [])
push_more [] x = omega arith
push_more (y ∷ ys) x = omega arith

each_more : {A B : Type 0} (make : Makes A B) (s : Grows (List B)) (xs : List A) → 0 < length s.made → 0 < length (fold (one_more make) s xs).made
each_more make s [] h = h
each_more make s (x ∷ xs) h = each_more make (one_more make s x) xs (push_more s.made (make s.seen x).made)

pub each_some : {A B : Type 0} (make : Makes A B) (Q : A → Type 0) (P : B → Type 0)
    → ((seen : List Bool) (x : A) → Q x → P (make seen x).made) → (seen : List Bool) (x : A) (xs : List A) → AllByRecursion Q (x ∷ xs)
    → AreSome P (each make seen (x ∷ xs)).made
each_some {A} {B} make Q P k seen x xs h =
    let none : Grows (List B) = record { seen = seen; made = [] } in
    are_some P (each make seen (x ∷ xs)).made (each_all make Q P k none (x ∷ xs) tt h)
    (each_more make (one_more make none x) xs (push_more [] (make seen x).made))
