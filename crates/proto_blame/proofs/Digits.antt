-- A blame is read as its line: the fold of its digits is their value.
use Rattle.std.proofs.Common.{rules, arith, ◌≡◌, ◌∙◌, ℕ, ◌+◌, ◌-◌, ◌*◌, ◌^◌, ◌<◌, ◌≤◌, true, List, [], ◌∷◌, refl, ap}
use Rattle.std.specs.Prelude.{decimal}
use Rattle.std.specs.List.{fold}
use Rattle.std.specs.Str.{all_ascii_digits}
use Rattle.std.proofs.lemmas.Str.Parse.{IsNumeralModel, numerals_by_fold, IsDigitsTest}
use Rattle.std.proofs.lemmas.Fmt.{digits_decimal, digits_value-decimal}
use Rattle.proto_blame.specs.Blames.{with_digit, line_in}

abbrev read_on : ℕ → List ℕ → ℕ
read_on n [] = n
read_on n (c ∷ cs) = read_on (10 * n + (c - 48)) cs

own : IsNumeralModel (λ ds. all_ascii_digits ds ≡ true) (read_on 0)
own = numerals_by_fold _ (search rules) read_on (search rules)

are_digits : IsDigitsTest (λ ds. all_ascii_digits ds ≡ true)
are_digits = search rules

grows : (n : ℕ) (ds : List ℕ) → n ≤ read_on n ds
grows n [] = omega arith
grows n (c ∷ cs) = let more : 10 * n + (c - 48) ≤ read_on (10 * n + (c - 48)) cs = grows (10 * n + (c - 48)) cs in omega arith

one : (n c : ℕ) → 48 ≤ c → c ≤ 57 → 10 * n + (c - 48) < 2 ^ 32 → with_digit n c ≡ 10 * n + (c - 48)
one n c low high small = omega arith

same : (n : ℕ) (ds : List ℕ) → all_ascii_digits ds ≡ true → read_on n ds < 2 ^ 32 → fold with_digit n ds ≡ read_on n ds
same n [] d small = refl
same n (c ∷ cs) d small =
    let parts = are_digits.parts c cs d in
    let more : 10 * n + (c - 48) ≤ read_on (10 * n + (c - 48)) cs = grows (10 * n + (c - 48)) cs in
    ap (λ k. fold with_digit k cs) (one n c (search (rules, parts)) (search (rules, parts)) (omega arith))
    ∙ same (10 * n + (c - 48)) cs parts.1 small

pub blame_is_read : (line : ℕ) → line < 2 ^ 32 → line_in (decimal line) ≡ line
blame_is_read line small =
    let within : line < 2 ^ 64 = omega arith in
    let is : read_on 0 (decimal line) ≡ line = digits_value-decimal own line within in
    same 0 (decimal line) (digits_decimal own line within) (rw is small) ∙ is
