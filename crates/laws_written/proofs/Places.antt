-- Items of lists by their places, where what is made of one list is what is made of another.
use Rattle.std.proofs.Common.{◌≡◌, ℕ, zero, suc, ◌+◌, ◌<◌, List, [], ◌∷◌, ◌++◌, length, map, take, Option, Some, slice_get, refl, sym, ap, ◌∙◌, arith}
use Rattle.std.specs.Prelude.{option_map}
use Rattle.std.specs.List.{range_with_len}
use Rattle.std.proofs.lemmas.Option.{slice_get-map}
use Rattle.laws_documents.specs.Uses.{some}
use Rattle.laws_written.proofs.NumberedLists.{some_is}
use Rattle.laws_written.proofs.Made.{front}

abbrev some_of : {A : Type 0} → A → Option A
some_of x = Some x

pub range_at : (from count i : ℕ) → i < count → slice_get (range_with_len from count) i ≡ Some (from + i)
range_at from zero i l = absurd (omega (arith, l))
range_at from (suc count) zero l = ap (λ (k : ℕ). some_of k) (omega arith)
range_at from (suc count) (suc i) l = range_at (from + 1) count i (omega (arith, l)) ∙ ap (λ (k : ℕ). some_of k) (omega arith)

pub mapped_at : {A B : Type 0} (f : A → B) (xs : List A) (i : ℕ) (x : A) → slice_get xs i ≡ Some x → slice_get (map f xs) i ≡ Some (f x)
mapped_at {A = A} f xs i x e = slice_get-map f xs i ∙ ap (λ (o : Option A). option_map f o) e

-- what is made of the item is what stands in its place
pub item_is : {A B : Type 0} (f : A → B) (xs : List A) (ys : List B) (i : ℕ) (x : A) (y : B) → map f xs ≡ ys → slice_get xs i ≡ Some x → slice_get ys i ≡ Some y → f x ≡ y
item_is {B = B} f xs ys i x y e at there = some_is (f x) y (sym (mapped_at f xs i x at) ∙ (ap (λ (l : List B). slice_get l i) e ∙ there))

pub in_front : {B : Type 0} (g : ℕ → B) (count : ℕ) (ys : List B) (i : ℕ) → i < count → slice_get (map g (range_with_len 0 count) ++ ys) i ≡ Some (g i)
in_front {B = B} g count ys i l =
    let none : 0 + i ≡ i = omega arith in
    front (map g (range_with_len 0 count)) ys i (g i)
    (mapped_at g (range_with_len 0 count) i (0 + i) (range_at 0 count i l) ∙ ap (λ (k : ℕ). some_of (g k)) none)

pub range_many : (from count : ℕ) → length (range_with_len from count) ≡ count
range_many from zero = refl
range_many from (suc count) = ap (λ (k : ℕ). suc k) (range_many (from + 1) count)

-- ---- lists of numbers

same_head : (x y : ℕ) (xs ys : List (Option ℕ)) → (some x ∷ xs) ≡ (some y ∷ ys) → x ≡ y
same_head x y xs ys e = cc

same_tail : (x y : ℕ) (xs ys : List (Option ℕ)) → (some x ∷ xs) ≡ (some y ∷ ys) → xs ≡ ys
same_tail x y xs ys e = cc

pub same_numbers : (xs ys : List ℕ) → map some xs ≡ map some ys → xs ≡ ys
same_numbers [] [] e = refl
same_numbers [] (y ∷ ys) e = absurd cc
same_numbers (x ∷ xs) [] e = absurd cc
same_numbers (x ∷ xs) (y ∷ ys) e =
    ap (λ (n : ℕ). n ∷ xs) (same_head x y (map some xs) (map some ys) e)
    ∙ ap (λ (l : List ℕ). y ∷ l) (same_numbers xs ys (same_tail x y (map some xs) (map some ys) e))

pub take_twice : {A : Type 0} (n : ℕ) (xs : List A) → take n (take n xs) ≡ take n xs
take_twice zero xs = refl
take_twice (suc n) [] = refl
take_twice {A = A} (suc n) (x ∷ xs) = ap (λ (l : List A). x ∷ l) (take_twice n xs)

-- ---- lists that are the same in each place

pub mapped_is : {A B : Type 0} (f : A → B) (xs : List A) (ys : List B) → length xs ≡ length ys
    → ((i : ℕ) (x : A) (y : B) → slice_get xs i ≡ Some x → slice_get ys i ≡ Some y → f x ≡ y) → map f xs ≡ ys
mapped_is f [] [] l k = refl
mapped_is f [] (y ∷ ys) l k = absurd (omega (arith, l))
mapped_is f (x ∷ xs) [] l k = absurd (omega (arith, l))
mapped_is {B = B} f (x ∷ xs) (y ∷ ys) l k =
    ap (λ (z : B). z ∷ map f xs) (k 0 x y refl refl)
    ∙ ap (λ (zs : List B). y ∷ zs) (mapped_is f xs ys (omega (arith, l)) (λ i z w a b. k (suc i) z w a b))

pub joined_is : {A B : Type 0} (f : A → B) (xs : List A) (ys zs : List B) → length xs ≡ length ys + length zs
    → ((i : ℕ) (x : A) (y : B) → slice_get xs i ≡ Some x → slice_get ys i ≡ Some y → f x ≡ y)
    → ((i : ℕ) (x : A) (z : B) → slice_get xs (length ys + i) ≡ Some x → slice_get zs i ≡ Some z → f x ≡ z) → map f xs ≡ ys ++ zs
joined_is {A = A} f xs [] zs l k m =
    mapped_is f xs zs (omega (arith, l)) (λ i x z at there.
    (let e : i ≡ 0 + i = omega arith in m i x z (ap (λ (j : ℕ). slice_get xs j) (sym e) ∙ at) there))
joined_is f [] (y ∷ ys) zs l k m = absurd (omega (arith, l))
joined_is {A = A} {B = B} f (x ∷ xs) (y ∷ ys) zs l k m =
    ap (λ (w : B). w ∷ map f xs) (k 0 x y refl refl)
    ∙ ap (λ (ws : List B). y ∷ ws) (joined_is f xs ys zs (omega (arith, l)) (λ i v w a b. k (suc i) v w a b)
    (λ i v w a b. (let e : suc (length ys) + i ≡ suc (length ys + i) = omega arith in
    m i v w (ap (λ (j : ℕ). slice_get (x ∷ xs) j) e ∙ a) b)))
