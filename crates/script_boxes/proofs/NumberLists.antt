-- Lists of one, of two and of six numbers.
use Rattle.std.proofs.Common.{◌≡◌, ◌<◌, ◌≤◌, ℤ, pos, List, [], ◌∷◌, length, get_or, refl, arith}

-- a list of so many is its numbers
pub one : (xs : List ℤ) → 1 ≤ length xs → length xs < 2 → get_or xs 0 (pos 0) ∷ [] ≡ xs
one (a ∷ []) long short = refl
one [] long short = absurd (omega arith)
one (a ∷ b ∷ xs) long short = absurd (omega arith)

pub two : (xs : List ℤ) → 2 ≤ length xs → length xs < 3
    → get_or xs 0 (pos 0) ∷ get_or xs 1 (pos 0) ∷ [] ≡ xs
two (a ∷ b ∷ []) long short = refl
two [] long short = absurd (omega arith)
two (a ∷ []) long short = absurd (omega arith)
two (a ∷ b ∷ c ∷ xs) long short = absurd (omega arith)

-- a list of six is its six numbers
pub six : (xs : List ℤ) → 6 ≤ length xs → length xs < 7
    → get_or xs 0 (pos 0) ∷ get_or xs 1 (pos 0) ∷ get_or xs 2 (pos 0) ∷ get_or xs 3 (pos 0) ∷ get_or xs 4 (pos 0) ∷ get_or xs 5 (pos 0) ∷ [] ≡ xs
six (a ∷ b ∷ c ∷ d ∷ e ∷ f ∷ []) long short = refl
six [] long short = absurd (omega arith)
six (a ∷ []) long short = absurd (omega arith)
six (a ∷ b ∷ []) long short = absurd (omega arith)
six (a ∷ b ∷ c ∷ []) long short = absurd (omega arith)
six (a ∷ b ∷ c ∷ d ∷ []) long short = absurd (omega arith)
six (a ∷ b ∷ c ∷ d ∷ e ∷ []) long short = absurd (omega arith)
six (a ∷ b ∷ c ∷ d ∷ e ∷ f ∷ g ∷ xs) long short = absurd (omega arith)
