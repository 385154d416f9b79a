-- Marks that stand for 32 items each.
use Rattle.std.proofs.Common.{arith, ◌≡◌, ◌≢◌, ◌<◌, ◌≤◌, ◌+◌, ◌/◌, ◌*◌, ◌∙◌, ap, sym, subst, refl, eq-eqb, eqb-true, ℕ, zero, suc, Bool, true, false, List, [], ◌∷◌, Some, take, drop, replicate}
use Rattle.std.specs.Prelude.{◌==◌, ◌&&◌, slice_get, slice_set}
use Rattle.std.specs.List.{list_all}
use Rattle.cascade_world.specs.Blocks.{AreMarked, AreOthers, AreResting}

split : {P : Type 0} (i n : ℕ) (b : Bool) → (i == n) ≡ b → (i ≡ n → P) → (i ≢ n → P) → P
split i n true h same other = same (eqb-true i n h)
split i n false h same other = other (λ e. let t : (i == n) ≡ true = eq-eqb i n e in cc)

-- what stands at a place after a set there
pub set-here : {X : Type 0} (xs : List X) (k : ℕ) (x y : X) → slice_get (slice_set xs k x) k ≡ Some y → y ≡ x
set-here [] k x y h = cc
set-here (z ∷ xs) zero x y h = cc
set-here (z ∷ xs) (suc k) x y h = set-here xs k x y h

-- and elsewhere
pub set-there : {X : Type 0} (xs : List X) (k i : ℕ) (x : X) → i ≢ k → slice_get (slice_set xs k x) i ≡ slice_get xs i
set-there [] k i x h = refl
set-there (z ∷ xs) zero zero x h = absurd (h refl)
set-there (z ∷ xs) zero (suc i) x h = refl
set-there (z ∷ xs) (suc k) zero x h = refl
set-there (z ∷ xs) (suc k) (suc i) x h = set-there xs k i x (λ e. h (ap suc e))

module _ {X M : Type 0} (says : X → M → Type 0) (items : List X) (marks : List M) where
  -- one mark says nothing, or what holds of each of its items
  pub marked : (block : ℕ) (mark : M) → AreMarked says items marks → ((i : ℕ) (x : X) → i / 32 ≡ block → slice_get items i ≡ Some x → says x mark) →
      AreMarked says items (slice_set marks block mark)
  marked block mark are holds i x m item at =
      split (i / 32) block ((i / 32) == block) refl
      (λ e. let same : m ≡ mark = set-here marks block mark m (subst (λ (k : ℕ). slice_get (slice_set marks block mark) k ≡ Some m) e at) in
      subst (λ (y : M). says x y) (sym same) (holds i x e item))
      (λ e. are i x m item (sym (set-there marks block (i / 32) mark e) ∙ at))

  -- an item is another, and its mark says nothing
  pub put : (at : ℕ) (y : X) (mark : M) → AreMarked says items marks → ((x : X) → says x mark) →
      AreMarked says (slice_set items at y) (slice_set marks (at / 32) mark)
  put at y mark are nothing i x m item there =
      split (i / 32) (at / 32) ((i / 32) == (at / 32)) refl
      (λ e. let same : m ≡ mark = set-here marks (at / 32) mark m (subst (λ (k : ℕ). slice_get (slice_set marks (at / 32) mark) k ≡ Some m) e there) in
      subst (λ (n : M). says x n) (sym same) (nothing x))
      (λ e. are i x m (sym (set-there items at i y (λ (k : i ≡ at). e (ap (λ (j : ℕ). j / 32) k))) ∙ item)
      (sym (set-there marks (at / 32) (i / 32) mark e) ∙ there))

  -- the items at other places are the same
  pub others : (at : ℕ) (new : List X) (mark : M) → AreMarked says items marks → ((x : X) → says x mark) → AreOthers at items new →
      AreMarked says new (slice_set marks (at / 32) mark)
  others at new mark are nothing same i x m item there =
      split (i / 32) (at / 32) ((i / 32) == (at / 32)) refl
      (λ e. let one : m ≡ mark = set-here marks (at / 32) mark m (subst (λ (k : ℕ). slice_get (slice_set marks (at / 32) mark) k ≡ Some m) e there) in
      subst (λ (n : M). says x n) (sym one) (nothing x))
      (λ e. are i x m (sym (same i (λ (k : i ≡ at). e (ap (λ (j : ℕ). j / 32) k))) ∙ item)
      (sym (set-there marks (at / 32) (i / 32) mark e) ∙ there))

-- equal marks that say nothing
pub of-replicate : {M : Type 0} (n k : ℕ) (mark m : M) → slice_get (replicate n mark) k ≡ Some m → m ≡ mark
of-replicate zero k mark m h = cc
of-replicate (suc n) zero mark m h = cc
of-replicate (suc n) (suc k) mark m h = of-replicate n k mark m h

pub fresh : {X : Type 0} (rests : X → Bool) (items : List X) (n : ℕ) → AreResting rests items (replicate n false)
fresh rests items n i x m item at is = let e : m ≡ false = of-replicate n (i / 32) false m at in cc

pub unknown : {X : Type 0} (rests : X → Bool) (x : X) → false ≡ true → rests x ≡ true
unknown rests x h = cc

-- each of some items has what all have
and-first : (a b : Bool) → (a && b) ≡ true → a ≡ true
and-first true b h = refl
and-first false b h = cc

and-second : (a b : Bool) → (a && b) ≡ true → b ≡ true
and-second true b h = h
and-second false b h = cc

pub each-of : {X : Type 0} (p : X → Bool) (xs : List X) (s n i : ℕ) (x : X) → list_all p (take n (drop s xs)) ≡ true → s ≤ i → i < s + n → slice_get xs i ≡ Some x → p x ≡ true
each-of p [] s n i x all from below at = cc
each-of p (y ∷ xs) zero zero i x all from below at = absurd (omega (arith, below))
each-of p (y ∷ xs) zero (suc n) zero x all from below at = let e : y ≡ x = cc in subst (λ (z : _). p z ≡ true) e (and-first (p y) (list_all p (take n xs)) all)
each-of p (y ∷ xs) zero (suc n) (suc i) x all from below at =
    each-of p xs zero n i x (and-second (p y) (list_all p (take n xs)) all) (omega arith) (omega (arith, below)) at
each-of p (y ∷ xs) (suc s) n zero x all from below at = absurd (omega (arith, from))
each-of p (y ∷ xs) (suc s) n (suc i) x all from below at = each-of p xs s n i x all (omega (arith, from)) (omega (arith, below)) at

pub in-slice : {X : Type 0} (xs : List X) (s n j i : ℕ) (x : X) → i ≡ s + j → j < n → slice_get xs i ≡ Some x → slice_get (take n (drop s xs)) j ≡ Some x
in-slice [] s n j i x e below at = cc
in-slice (y ∷ xs) zero zero j i x e below at = absurd (omega (arith, below))
in-slice (y ∷ xs) zero (suc n) zero zero x e below at = at
in-slice (y ∷ xs) zero (suc n) zero (suc i) x e below at = absurd (omega (arith, e))
in-slice (y ∷ xs) zero (suc n) (suc j) zero x e below at = absurd (omega (arith, e))
in-slice (y ∷ xs) zero (suc n) (suc j) (suc i) x e below at = in-slice xs zero n j i x (omega (arith, e)) (omega (arith, below)) at
in-slice (y ∷ xs) (suc s) n j zero x e below at = absurd (omega (arith, e))
in-slice (y ∷ xs) (suc s) n j (suc i) x e below at = in-slice xs s n j i x (omega (arith, e)) below at

-- the items of a block
pub in-block : (i block : ℕ) → i / 32 ≡ block → (block * 32 ≤ i) × (i < block * 32 + 32)
in-block i block e = (omega (arith, e), omega (arith, e))

pub block-of : (i block : ℕ) → block * 32 ≤ i → i < block * 32 + 32 → i / 32 ≡ block
block-of i block from below = omega (arith, from, below)
