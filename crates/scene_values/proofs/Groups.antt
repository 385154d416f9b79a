-- One more group of numerals.
use Rattle.std.proofs.Common.{◌≡◌, ◌&&◌, false, suc, ℕ, ◌+◌, ◌-◌, ◌<◌, ◌≤◌, ℤ, pos, Bool, true, List, [], ◌∷◌, ◌++◌, length, get_or, take, drop, map, sym, ap, refl, ◌∙◌, append_assoc, add-one, arith}
use Rattle.std.proofs.lemmas.List.{take_rest}
use Rattle.std.proofs.Math.Seq.{drop-cons}
use Rattle.std.specs.List.{list_all}
use Rattle.x3d_values.specs.declared.vector.Vec2.{Vec2}
use Rattle.x3d_values.specs.declared.vector.Vec3.{Vec3}
use Rattle.x3d_values.specs.declared.vector.Color.{Color}
use Rattle.scene_values.specs.Grouping.{pairs, vectors, colors}

-- ---- two at a time

pairs-cons : (s : List ℤ) → 2 ≤ length s →
    pairs s ≡ record { x = get_or s 0 (pos 0); y = get_or s 1 (pos 0) } ∷ pairs (take (length s - 2) (drop 2 s))
pairs-cons [] long = absurd (omega arith)
pairs-cons (x ∷ []) long = absurd (omega arith)
pairs-cons (x ∷ (y ∷ rest)) long = ap (λ more. record { x = x; y = y } ∷ pairs more) (sym (take_rest (x ∷ (y ∷ rest)) 2))

-- the items that stood before, one more, and what the numerals behind it make
pub pairs_grow : (start before after : List Vec2) (s : List ℤ) (x y : ℤ) → 2 ≤ length s →
    x ≡ get_or s 0 (pos 0) → y ≡ get_or s 1 (pos 0) →
    start ≡ before ++ pairs s → after ≡ before ++ record { x = x; y = y } ∷ [] →
    start ≡ after ++ pairs (take (length s - 2) (drop 2 s))
pairs_grow start before after s x y long ex ey is grown = rw (is, grown, ex, ey, pairs-cons s long, append_assoc)

-- ---- three at a time

vectors-cons : (s : List ℤ) → 3 ≤ length s →
    vectors s ≡ record { x = get_or s 0 (pos 0); y = get_or s 1 (pos 0); z = get_or s 2 (pos 0) } ∷ vectors (take (length s - 3) (drop 3 s))
vectors-cons [] long = absurd (omega arith)
vectors-cons (x ∷ []) long = absurd (omega arith)
vectors-cons (x ∷ (y ∷ [])) long = absurd (omega arith)
vectors-cons (x ∷ (y ∷ (z ∷ rest))) long = ap (λ more. record { x = x; y = y; z = z } ∷ vectors more) (sym (take_rest (x ∷ (y ∷ (z ∷ rest))) 3))

pub vectors_grow : (start before after : List Vec3) (s : List ℤ) (x y z : ℤ) → 3 ≤ length s →
    x ≡ get_or s 0 (pos 0) → y ≡ get_or s 1 (pos 0) → z ≡ get_or s 2 (pos 0) →
    start ≡ before ++ vectors s → after ≡ before ++ record { x = x; y = y; z = z } ∷ [] →
    start ≡ after ++ vectors (take (length s - 3) (drop 3 s))
vectors_grow start before after s x y z long ex ey ez is grown = rw (is, grown, ex, ey, ez, vectors-cons s long, append_assoc)

colors-cons : (s : List ℤ) → 3 ≤ length s →
    colors s ≡ record { red = get_or s 0 (pos 0); green = get_or s 1 (pos 0); blue = get_or s 2 (pos 0) } ∷ colors (take (length s - 3) (drop 3 s))
colors-cons [] long = absurd (omega arith)
colors-cons (x ∷ []) long = absurd (omega arith)
colors-cons (x ∷ (y ∷ [])) long = absurd (omega arith)
colors-cons (x ∷ (y ∷ (z ∷ rest))) long =
    ap (λ more. record { red = x; green = y; blue = z } ∷ colors more) (sym (take_rest (x ∷ (y ∷ (z ∷ rest))) 3))

pub colors_grow : (start before after : List Color) (s : List ℤ) (x y z : ℤ) → 3 ≤ length s →
    x ≡ get_or s 0 (pos 0) → y ≡ get_or s 1 (pos 0) → z ≡ get_or s 2 (pos 0) →
    start ≡ before ++ colors s → after ≡ before ++ record { red = x; green = y; blue = z } ∷ [] →
    start ≡ after ++ colors (take (length s - 3) (drop 3 s))
colors_grow start before after s x y z long ex ey ez is grown = rw (is, grown, ex, ey, ez, colors-cons s long, append_assoc)

-- ---- one at a time

pub mapped_grow : (f : ℤ → ℤ) (start before after : List ℤ) (s : List ℤ) (i : ℕ) (x : ℤ) → i < length s → x ≡ f (get_or s i (pos 0)) →
    start ≡ before ++ map f (drop i s) → after ≡ before ++ x ∷ [] → start ≡ after ++ map f (drop (i + 1) s)
mapped_grow f start before after s i x short ex is grown = rw (is, grown, ex, drop-cons s i (pos 0) short, append_assoc, add-one)

first_holds : (p : ℤ → Bool) (x : ℤ) (xs : List ℤ) → list_all p (x ∷ xs) ≡ true → list_all p xs ≡ true
first_holds p x xs all = elim (p x) as (λ b. (b && list_all p xs) ≡ true → list_all p xs ≡ true) [ true ↦ λ h. h | false ↦ λ h. absurd (cc) ] all

-- what holds of all the items left holds of those behind the first
pub rest_holds : (p : ℤ → Bool) (s : List ℤ) (i : ℕ) → i < length s → list_all p (drop i s) ≡ true → list_all p (drop (i + 1) s) ≡ true
rest_holds p s i short all = rw add-one (first_holds p (get_or s i (pos 0)) (drop (suc i) s) (rw (drop-cons s i (pos 0) short) at all))

its_first : (p : ℤ → Bool) (x : ℤ) (xs : List ℤ) → list_all p (x ∷ xs) ≡ true → p x ≡ true
its_first p x xs all = elim (p x) as (λ b. (b && list_all p xs) ≡ true → b ≡ true) [ true ↦ λ h. refl | false ↦ λ h. absurd (cc) ] all

-- what holds of all the items left holds of the first of them
pub holds_here : (p : ℤ → Bool) (s : List ℤ) (i : ℕ) (x : ℤ) → i < length s → x ≡ get_or s i (pos 0) →
    list_all p (drop i s) ≡ true → p x ≡ true
holds_here p s i x short is all = rw is (its_first p (get_or s i (pos 0)) (drop (suc i) s) (rw (drop-cons s i (pos 0) short) at all))

-- whether it holds of all of them is told by the first that fails it, or by those behind one that doesn't
pub fails_here : (p : ℤ → Bool) (all : Bool) (s : List ℤ) (i : ℕ) (x : ℤ) → i < length s → x ≡ get_or s i (pos 0) →
    all ≡ list_all p (drop i s) → p x ≡ false → false ≡ all
fails_here p all s i x short is so_far fails = sym (so_far ∙ ap (list_all p) (drop-cons s i (pos 0) short)
    ∙ ap (λ b. b && list_all p (drop (suc i) s)) (ap p (sym is) ∙ fails))

pub passes_here : (p : ℤ → Bool) (all : Bool) (s : List ℤ) (i : ℕ) (x : ℤ) → i < length s → x ≡ get_or s i (pos 0) →
    all ≡ list_all p (drop i s) → p x ≡ true → all ≡ list_all p (drop (i + 1) s)
passes_here p all s i x short is so_far passes = so_far ∙ ap (list_all p) (drop-cons s i (pos 0) short)
    ∙ ap (λ b. b && list_all p (drop (suc i) s)) (ap p (sym is) ∙ passes)
    ∙ ap (λ n. list_all p (drop n s)) (sym (add-one i))
