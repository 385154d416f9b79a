-- Readings that are in their range.
use Rattle.std.proofs.Common.{◌≤◌, ◌^◌, ℕ, zero, suc, ℤ, pos, List, [], ◌∷◌, IsTrue, get_or, unsigned_abs, rules, arith}
use Rattle.std.proofs.lemmas.Bool.{and_parts}
use Rattle.std.specs.List.{list_all}
use Rattle.x3d_values.specs.Ranges.{coordinate_fits}

-- a reading in its range is of a size of up to 10^15
pub reading_small : (xs : List ℤ) (i : ℕ) → IsTrue (list_all coordinate_fits xs) → unsigned_abs (get_or xs i (pos 0)) ≤ 10 ^ 15
reading_small [] i h = omega arith
reading_small (x ∷ xs) zero h = let fits = (and_parts (coordinate_fits x) (list_all coordinate_fits xs) h).0 in search rules
reading_small (x ∷ xs) (suc i) h = reading_small xs i (and_parts (coordinate_fits x) (list_all coordinate_fits xs) h).1
