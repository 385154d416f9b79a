-- The numbers of a document's nodes are those of nodes of its scene.
use Rattle.std.proofs.Common.{◌≡◌, ℕ, zero, suc, ◌+◌, ◌<◌, ◌≤◌, Bool, true, false, not, List, [], ◌∷◌, ◌++◌, length, replicate, slice_get, slice_set, Option, Some, Ok, if◌then◌else◌, refl, sym, ap, subst, ◌∙◌, ◌⊎◌, inl, inr, arith}
use Rattle.std.specs.Prelude.{slice_index_or}
use Rattle.std.specs.List.{AllByRecursion, fold}
use Rattle.std.proofs.lemmas.List.{length-replicate}
use Rattle.proto_flat.specs.declared.flat.FlatNode.{FlatNode}
use Rattle.scene_core.specs.declared.numbering.Numbering.{Numbering}
use Rattle.scene_core.specs.declared.scene.SceneNode.{SceneNode}
use Rattle.scene_core.specs.Building.{node_of, with_node}
use Rattle.scene_core.specs.Faults.{through}
use Rattle.scene_core.specs.Labels.{is_label}
use Rattle.scene_core.specs.Numbers.{is_new, appear, close, visit, unnumbered, numbering}
use Rattle.scene_core.specs.Parts.{parts_of}
use Rattle.laws_written.proofs.Lists.{all_push, all_weaker, found}
use Rattle.laws_written.proofs.Steps.{bind_is, ok_is}

-- a number among so many, or 0
abbrev pub IsLow : ℕ → ℕ → Type 0
IsLow count k = (k < count) ⊎ (k ≡ 0)

pub record IsNumbering (count : ℕ) (s : Numbering) : Type 0 where
  pub opened : length s.opened ≡ count
  pub order : AllByRecursion (λ (n : ℕ). n < count) s.order
  pub numbers : AllByRecursion (IsLow (length s.order)) s.numbers

pub all_set : {A : Type 0} (P : A → Type 0) (xs : List A) (n : ℕ) (x : A) → AllByRecursion P xs → P x → AllByRecursion P (slice_set xs n x)
all_set P [] n x h k = tt
all_set P (y ∷ ys) zero x h k = (k, h.1)
all_set P (y ∷ ys) (suc n) x h k = (h.0, all_set P ys n x h.1 k)

lower : (count k : ℕ) → IsLow count k → IsLow (count + 1) k
lower count k (inl l) = inl (omega (arith, l))
lower count k (inr e) = inr e

one_more : {A : Type 0} (xs : List A) (x : A) → length (xs ++ x ∷ []) ≡ length xs + 1
one_more [] x = refl
one_more (y ∷ ys) x = ap (λ n. suc n) (one_more ys x) ∙ omega arith

closed_numbering : (count : ℕ) (s : Numbering) (n : ℕ) → IsNumbering count s → n < count → IsNumbering count (close s n)
closed_numbering count s n h l =
    let many : length (s.order ++ n ∷ []) ≡ length s.order + 1 = one_more s.order n in
    let own : IsLow (length s.order + 1) (length s.order) = inl (omega arith) in
    let all : AllByRecursion (IsLow (length s.order + 1)) (slice_set s.numbers n (length s.order)) =
    all_set (IsLow (length s.order + 1)) s.numbers n (length s.order)
    (all_weaker (IsLow (length s.order)) (IsLow (length s.order + 1)) (lower (length s.order)) s.numbers h.numbers) own in
    record {
      opened = h.opened;
      order = all_push (λ (n : ℕ). n < count) s.order n h.order l;
      numbers = subst (λ k. AllByRecursion (IsLow k) (slice_set s.numbers n (length s.order))) (sym many) all;
    }

length_set : {A : Type 0} (xs : List A) (n : ℕ) (x : A) → length (slice_set xs n x) ≡ length xs
length_set [] n x = refl
length_set (y ∷ ys) zero x = refl
length_set (y ∷ ys) (suc n) x = ap (λ k. suc k) (length_set ys n x)

new_within : (bs : List Bool) (n : ℕ) → not (slice_index_or bs n true) ≡ true → n < length bs
new_within [] n h = absurd cc
new_within (b ∷ bs) zero h = omega arith
new_within (b ∷ bs) (suc n) h = let l = new_within bs n h in omega (arith, l)

fold_keeps : {A B : Type 0} (P : B → Type 0) (f : B → A → B) → ((b : B) (a : A) → P b → P (f b a)) → (xs : List A) (b : B) → P b → P (fold f b xs)
fold_keeps P f k [] b h = h
fold_keeps P f k (x ∷ xs) b h = fold_keeps P f k xs (f b x) (k b x h)

module _ (nodes : List FlatNode) (count : ℕ) where
  by_new : (inside : Numbering → ℕ → Numbering) → ((s : Numbering) (n : ℕ) → IsNumbering count s → IsNumbering count (inside s n))
      → (s : Numbering) (n : ℕ) → IsNumbering count s → (b : Bool) → is_new s n ≡ b
      → IsNumbering count (if b then close (fold inside (appear s n) (parts_of nodes n)) n else s)
  by_new inside k s n h false e = h
  by_new inside k s n h true e =
      let l = new_within s.opened n e in
      let appeared : IsNumbering count (appear s n) =
      record { opened = length_set s.opened n true ∙ h.opened; order = h.order; numbers = h.numbers } in
      closed_numbering count (fold inside (appear s n) (parts_of nodes n)) n
      (fold_keeps (IsNumbering count) inside k (parts_of nodes n) (appear s n) appeared) (omega (arith, l, h.opened))

  visit_keeps : (fuel : ℕ) (s : Numbering) (n : ℕ) → IsNumbering count s → IsNumbering count (visit fuel nodes s n)
  unfolding visit
  visit_keeps zero s n h = h
  visit_keeps (suc fuel) s n h = by_new (visit fuel nodes) (λ s n. visit_keeps fuel s n) s n h (is_new s n) refl

  -- a number that was given stays
  some_stay : (fuel : ℕ) (s : Numbering) (n : ℕ) → 1 ≤ length s.order → 1 ≤ length (visit fuel nodes s n).order
  unfolding visit
  some_stay zero s n h = h
  some_stay (suc fuel) s n h = stay_by (is_new s n) where
    stay_by : (b : Bool) → 1 ≤ length (if b then close (fold (visit fuel nodes) (appear s n) (parts_of nodes n)) n else s).order
    stay_by false = h
    stay_by true = let e = one_more (fold (visit fuel nodes) (appear s n) (parts_of nodes n)).order n in omega (arith, e)

  first_given : (fuel : ℕ) (s : Numbering) (n : ℕ) → is_new s n ≡ true → 1 ≤ length (visit (suc fuel) nodes s n).order
  unfolding visit
  first_given fuel s n h = given_by (is_new s n) h where
    given_by : (b : Bool) → b ≡ true → 1 ≤ length (if b then close (fold (visit fuel nodes) (appear s n) (parts_of nodes n)) n else s).order
    given_by false h = absurd cc
    given_by true h = let e = one_more (fold (visit fuel nodes) (appear s n) (parts_of nodes n)).order n in omega (arith, e)

low_none : (count n : ℕ) → AllByRecursion (IsLow count) (replicate n 0)
low_none count zero = tt
low_none count (suc n) = (inr refl, low_none count n)

all_new : (count n : ℕ) → n < count → not (slice_index_or (replicate count false) n true) ≡ true
all_new zero n h = absurd (omega (arith, h))
all_new (suc count) zero h = refl
all_new (suc count) (suc n) h = all_new count n (omega (arith, h))

pub numbered : (nodes : List FlatNode) (roots helpers : List ℕ) → IsNumbering (length nodes) (numbering nodes roots helpers)
unfolding numbering
numbered nodes roots helpers =
    fold_keeps (IsNumbering (length nodes)) (visit (length nodes + 1) nodes) (λ s n. visit_keeps nodes (length nodes) (length nodes + 1) s n)
    (roots ++ helpers) (unnumbered nodes)
    (record { opened = length-replicate (length nodes) false; order = tt; numbers = low_none 0 (length nodes) })

given_some : (nodes : List FlatNode) (ns : List ℕ) (n : ℕ) → n < length nodes → 1 ≤ length (fold (visit (length nodes + 1) nodes) (unnumbered nodes) (n ∷ ns)).order
given_some nodes ns n l =
    let fuel : ℕ = length nodes in
    let e : suc fuel ≡ fuel + 1 = omega arith in
    let first : 1 ≤ length (visit (length nodes + 1) nodes (unnumbered nodes) n).order =
    subst (λ k. 1 ≤ length (visit k nodes (unnumbered nodes) n).order) e (first_given nodes 0 fuel (unnumbered nodes) n (all_new (length nodes) n l)) in
    fold_keeps (λ (s : Numbering). 1 ≤ length s.order) (visit (length nodes + 1) nodes) (λ s m h. some_stay nodes 0 (length nodes + 1) s m h) ns
    (visit (length nodes + 1) nodes (unnumbered nodes) n) first

-- where there is a root or a helper, there is a node
pub some_numbered : (nodes : List FlatNode) (roots helpers : List ℕ) → AllByRecursion (λ (n : ℕ). n < length nodes) (roots ++ helpers)
    → (n : ℕ) (ns : List ℕ) → roots ++ helpers ≡ n ∷ ns → 1 ≤ length (numbering nodes roots helpers).order
unfolding numbering
some_numbered nodes roots helpers h n ns e =
    let l : AllByRecursion (λ (n : ℕ). n < length nodes) (n ∷ ns) = subst (AllByRecursion (λ (n : ℕ). n < length nodes)) e h in
    subst (λ (l : List ℕ). 1 ≤ length (fold (visit (length nodes + 1) nodes) (unnumbered nodes) l).order) (sym e) (given_some nodes ns n l.0)

-- every number that was given has its node
module _ (nodes : List FlatNode) (numbers : List ℕ) (alone : List ℕ → Bool) where
  pub all_made : (order : List ℕ) (made all : List SceneNode) → AllByRecursion (λ (n : ℕ). n < length nodes) order
      → through (λ n made. with_node nodes numbers alone (slice_get nodes n) made) order made ≡ Ok all → length all ≡ length made + length order
  all_made [] made all l h = ap (λ (x : List SceneNode). length x) (sym (ok_is made all h)) ∙ omega arith
  all_made (n ∷ ns) made all l h =
      let b = bind_is (with_node nodes numbers alone (slice_get nodes n) made)
      (λ more. through (λ n made. with_node nodes numbers alone (slice_get nodes n) made) ns more) all h in
      let f = found nodes n l.0 in
      let one : length b.0 ≡ length made + 1 = with_one f.0 made b.0 (sym (ap (λ (o : Option FlatNode). with_node nodes numbers alone o made) f.1) ∙ b.1) in
      let rest = all_made ns b.0 all l.1 b.2 in omega (arith, one, rest) where
        with_one : (node : FlatNode) (made more : List SceneNode) → with_node nodes numbers alone (Some node) made ≡ Ok more → length more ≡ length made + 1
        with_one node made more h =
            let b = bind_is (node_of nodes numbers (is_label alone (length made)) node) (λ n. Ok (made ++ n ∷ [])) more h in
            ap (λ (x : List SceneNode). length x) (sym (ok_is (made ++ b.0 ∷ []) more b.2)) ∙ one_more made b.0

low_at : (count : ℕ) (numbers : List ℕ) (m : ℕ) → 1 ≤ count → AllByRecursion (IsLow count) numbers → slice_index_or numbers m 0 < count
low_at count [] m one h = one
low_at count (k ∷ ks) zero one h = by_low h.0 where
  by_low : IsLow count k → k < count
  by_low (inl l) = l
  by_low (inr e) = omega (arith, e, one)
low_at count (k ∷ ks) (suc m) one h = low_at count ks m one h.1

pub called_low : (count : ℕ) (numbers : List ℕ) → 1 ≤ count → AllByRecursion (IsLow count) numbers → (m : ℕ) → slice_index_or numbers m 0 < count
called_low count numbers one h m = low_at count numbers m one h
