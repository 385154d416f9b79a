-- The first entries, and some after them.
use Rattle.std.proofs.Common.{◌≡◌, ℕ, zero, suc, ◌+◌, ◌-◌, ◌≤◌, List, [], ◌∷◌, ◌++◌, take, drop, slice_range, refl, ap, sym, ◌∙◌, append_assoc, arith}

take-none : {A : Type 0} (k : ℕ) → take {A = A} k [] ≡ []
take-none zero = refl
take-none (suc k) = refl

take-more : {A : Type 0} (xs : List A) (a k : ℕ) → take a xs ++ take k (drop a xs) ≡ take (a + k) xs
take-more xs zero k = ap (λ n. take n xs) (let same : k ≡ 0 + k = omega arith in same)
take-more [] (suc a) k = take-none k ∙ sym (take-none (suc a + k))
take-more (x ∷ xs) (suc a) k =
    let next : suc (a + k) ≡ suc a + k = omega arith in
    ap (λ l. x ∷ l) (take-more xs a k) ∙ ap (λ n. take n (x ∷ xs)) next

pub first-then : {A : Type 0} (xs : List A) (a b : ℕ) → a ≤ b → take a xs ++ slice_range xs a b ≡ take b xs
first-then xs a b le =
    let same : a + (b - a) ≡ b = omega (arith, le) in
    take-more xs a (b - a) ∙ ap (λ n. take n xs) same

-- a list that had the first of these, with those up to the second place
pub added : {A : Type 0} (before now next xs : List A) (a b : ℕ) → a ≤ b → now ≡ before ++ take a xs → next ≡ now ++ slice_range xs a b → next ≡ before ++ take b xs
added before now next xs a b le had gets =
    gets ∙ ap (λ l. l ++ slice_range xs a b) had ∙ append_assoc before (take a xs) (slice_range xs a b) ∙ ap (λ l. before ++ l) (first-then xs a b le)
