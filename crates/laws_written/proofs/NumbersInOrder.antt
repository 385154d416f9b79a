-- Numbers in order, one after the other, and a numbering where each node has its own place as its
-- number.
use Rattle.std.proofs.Common.{◌≡◌, ℕ, zero, suc, ◌+◌, ◌<◌, Bool, true, false, not, List, [], ◌∷◌, ◌++◌, length, map, replicate, Option, Some, slice_get, slice_set, refl, ap, ◌∙◌, ◌⊎◌, inl, inr, arith, true≢false}
use Rattle.std.specs.Prelude.{slice_index_or}
use Rattle.std.specs.List.{range_with_len}
use Rattle.proto_flat.specs.declared.flat.FlatNode.{FlatNode}
use Rattle.scene_core.specs.declared.numbering.Numbering.{Numbering}
use Rattle.laws_written.specs.ScenesAgain.{in_place}
use Rattle.laws_written.proofs.NumberedLists.{IsMarked, some_is}
use Rattle.laws_written.proofs.Visits.{IsOpen, Seen}

abbrev some : {A : Type 0} → A → Option A
some x = Some x

-- ---- lists in order

pub range_is : (f : ℕ → ℕ) (xs : List ℕ) (from : ℕ) → ((i x : ℕ) → slice_get xs i ≡ Some x → f x ≡ from + i) → map f xs ≡ range_with_len from (length xs)
range_is f [] from k = refl
range_is f (x ∷ xs) from k =
    let first : f x ≡ from = k 0 x refl ∙ omega arith in
    ap (λ (y : ℕ). y ∷ map f xs) first
    ∙ ap (λ (l : List ℕ). from ∷ l) (range_is f xs (from + 1) (λ i y at. k (suc i) y at ∙ omega arith))

range_at : (from count i : ℕ) → i < count → slice_get (range_with_len from count) i ≡ Some (from + i)
range_at from zero i l = absurd (omega (arith, l))
range_at from (suc count) zero l = ap (λ (k : ℕ). some k) (omega arith)
range_at from (suc count) (suc i) l = range_at (from + 1) count i (omega (arith, l)) ∙ ap (λ (k : ℕ). some k) (omega arith)

list_is : (xs : List ℕ) (from : ℕ) → ((i : ℕ) → i < length xs → slice_get xs i ≡ Some (from + i)) → xs ≡ range_with_len from (length xs)
list_is [] from k = refl
list_is (x ∷ xs) from k =
    let first : x ≡ from = some_is x (from + 0) (k 0 (omega arith)) ∙ omega arith in
    ap (λ (y : ℕ). y ∷ xs) first
    ∙ ap (λ (l : List ℕ). from ∷ l) (list_is xs (from + 1) (λ i l. k (suc i) (omega (arith, l)) ∙ ap (λ (j : ℕ). some j) (omega arith)))

suc_more : (count : ℕ) → suc (count + 1) ≡ suc count + 1
suc_more count = omega arith

pub range_more : (from count : ℕ) → range_with_len from count ++ (from + count) ∷ [] ≡ range_with_len from (count + 1)
range_more from zero = ap (λ (k : ℕ). k ∷ []) (omega arith)
range_more from (suc count) =
    ap (λ (k : ℕ). from ∷ (range_with_len (from + 1) count ++ k ∷ [])) (omega arith)
    ∙ (ap (λ (l : List ℕ). from ∷ l) (range_more (from + 1) count)
    ∙ ap (λ (k : ℕ). range_with_len from k) (suc_more count))

marks_are : (marks : List Bool) → ((n : ℕ) → n < length marks → IsMarked marks n) → marks ≡ replicate (length marks) true
marks_are [] k = refl
marks_are (true ∷ marks) k = ap (λ (l : List Bool). true ∷ l) (marks_are marks (λ n l. k (suc n) (omega (arith, l))))
marks_are (false ∷ marks) k = absurd (true≢false (k 0 (omega arith)))

pub other_mark : (marks : List Bool) (n m : ℕ) → (m ≡ n → ⊥) → slice_index_or (slice_set marks n true) m true ≡ slice_index_or marks m true
other_mark [] n m k = refl
other_mark (b ∷ bs) zero zero k = absurd (k refl)
other_mark (b ∷ bs) zero (suc m) k = refl
other_mark (b ∷ bs) (suc n) zero k = refl
other_mark (b ∷ bs) (suc n) (suc m) k = other_mark bs n m (λ e. k (ap (λ j. suc j) e))

pub equal : (a b : ℕ) → (a ≡ b) ⊎ (a ≡ b → ⊥)
equal zero zero = inl refl
equal zero (suc b) = inr (λ e. omega (arith, e))
equal (suc a) zero = inr (λ e. omega (arith, e))
equal (suc a) (suc b) = behind (equal a b) where
  behind : (a ≡ b) ⊎ (a ≡ b → ⊥) → (suc a ≡ suc b) ⊎ (suc a ≡ suc b → ⊥)
  behind (inl e) = inl (ap (λ k. suc k) e)
  behind (inr k) = inr (λ e. k (omega (arith, e)))

pub none_new : (count n : ℕ) → n < count → not (slice_index_or (replicate count false) n true) ≡ true
none_new zero n l = absurd (omega (arith, l))
none_new (suc count) zero l = refl
none_new (suc count) (suc n) l = none_new count n (omega (arith, l))

-- ---- a numbering by places

abbrev three : List Bool → List ℕ → List ℕ → Numbering
three opened order numbers = record { opened = opened; order = order; numbers = numbers }

pub in_place_is : (nodes : List FlatNode) (t : Numbering) → IsOpen nodes [] t → t.order ≡ range_with_len 0 (length nodes) → t ≡ in_place (length nodes)
in_place_is nodes t h o =
    let opened : t.opened ≡ replicate (length nodes) true =
    marks_are t.opened (λ n l. (numbered_at n (omega (arith, l, h.opened))).1) ∙ ap (λ (k : ℕ). replicate k true) h.opened in
    let numbers : t.numbers ≡ range_with_len 0 (length nodes) =
    list_is t.numbers 0 (λ n l. (numbered_at n (omega (arith, l, h.sized))).0 ∙ ap (λ (k : ℕ). some k) (omega arith))
    ∙ ap (λ (k : ℕ). range_with_len 0 k) h.sized in
    ap (λ (l : List Bool). three l t.order t.numbers) opened
    ∙ (ap (λ (l : List ℕ). three (replicate (length nodes) true) l t.numbers) o
    ∙ ap (λ (l : List ℕ). three (replicate (length nodes) true) (range_with_len 0 (length nodes)) l) numbers) where
      numbered_at : (n : ℕ) → n < length nodes → (slice_get t.numbers n ≡ Some n) × Seen t n
      numbered_at n l =
          let none : 0 + n ≡ n = omega arith in
          let at : slice_get t.order n ≡ Some n =
          ap (λ (xs : List ℕ). slice_get xs n) o ∙ (range_at 0 (length nodes) n l ∙ ap (λ (k : ℕ). some k) none) in
          let m = h.numbered n n at in (m.0, m.1)
