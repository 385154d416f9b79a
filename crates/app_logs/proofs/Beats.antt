-- The times of the clocks of a beat.
use Rattle.std.proofs.Common.{◌≡◌, ◌∙◌, ℕ, ℤ, pos, negsuc, ◌+ℤ◌, ◌≤ℤ◌, ◌*◌, ◌^◌, ◌≤◌, FitsSigned, w64, true, ap, arith}
use Rattle.std.specs.Prelude.{Some}
use Rattle.std.proofs.lemmas.Bool.{le-leb}
use Rattle.std.proofs.lemmas.Int.{ints}
use Rattle.snapshot_codec.specs.Trace.{is_moment}
use Rattle.app_logs.specs.Clocks.{beat_time, later_of}

below : (t : ℤ) → pos 0 ≤ℤ t → t ≤ℤ pos (2 * 10 ^ 18) → FitsSigned w64 t
below (pos n) low high = record { sfits = omega (arith, ints) }
below (negsuc n) low high = record { sfits = omega (arith, ints) }

sum_low : (a : ℤ) (n : ℕ) → pos 0 ≤ℤ a → pos 0 ≤ℤ (a +ℤ pos n)
sum_low a n low = grind (arith, ints)

sum_high : (a : ℤ) (n : ℕ) → a ≤ℤ pos (10 ^ 18) → n ≤ 10 ^ 18 → (a +ℤ pos n) ≤ℤ pos (2 * 10 ^ 18)
sum_high a n high few = grind (arith, ints)

pub sum_fits : (a : ℤ) (n : ℕ) → pos 0 ≤ℤ a → a ≤ℤ pos (10 ^ 18) → n ≤ 10 ^ 15 → FitsSigned w64 (a +ℤ pos (1000 * n))
sum_fits a n low high few = below (a +ℤ pos (1000 * n)) (sum_low a (1000 * n) low) (sum_high a (1000 * n) high (omega (arith, few)))

pub beat_is : (base last sum : ℤ) (millis : ℕ) (r : ℤ) → millis ≤ 10 ^ 15 → is_moment base ≡ true → is_moment last ≡ true → sum ≡ base +ℤ pos (1000 * millis)
    → r ≡ later_of sum last → Some r ≡ beat_time base last millis
beat_is base last sum millis r few b l sum_is is =
    rw (le-leb millis (10 ^ 15) few, b, l) (ap (λ (z : ℤ). Some z) (is ∙ ap (λ (z : ℤ). later_of z last) sum_is))
