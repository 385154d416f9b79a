-- The longest run at the front of a text.
use Rattle.std.proofs.Common.{◌≡◌, ℕ, ◌+◌, List, [], ◌∷◌, ◌++◌, length, take, drop, Bool, true, refl, arith, inl, inr}
use Rattle.std.proofs.Math.Numerals.{one-add}
use Rattle.std.proofs.lemmas.Bool.{cases_Bool, and_from, and_parts}
use Rattle.std.specs.List.{prefix_len, list_all}
use Rattle.classic_lex.specs.Tokens.{NotAhead, IsRun}

run_more : (p : ℕ → Bool) (x : ℕ) (xs : List ℕ) (n : ℕ) → p x ≡ true → IsRun p (take n xs) (drop n xs) → IsRun p (take (1 + n) (x ∷ xs)) (drop (1 + n) (x ∷ xs))
run_more p x xs n e run = rw one-add (and_from (p x) (list_all p (take n xs)) e run.0, run.1)

-- so many bytes are a run
pub IsRun-prefix : (p : ℕ → Bool) (xs : List ℕ) → IsRun p (take (prefix_len p xs) xs) (drop (prefix_len p xs) xs)
IsRun-prefix p [] = (refl, tt)
IsRun-prefix p (x ∷ xs) = elim (cases_Bool (p x)) [
  | inl e ↦ rw e (run_more p x xs (prefix_len p xs) e (IsRun-prefix p xs))
  | inr e ↦ rw e (refl, e)
]

none_ahead : (p : ℕ → Bool) (rest : List ℕ) → NotAhead p rest → prefix_len p rest ≡ 0
none_ahead p [] h = refl
none_ahead p (b ∷ bs) h = rw h refl

-- a run has so many bytes
pub prefix_len-IsRun : (p : ℕ → Bool) (run rest : List ℕ) → IsRun p run rest → prefix_len p (run ++ rest) ≡ length run
prefix_len-IsRun p [] rest h = none_ahead p rest h.1
prefix_len-IsRun p (b ∷ bs) rest h =
    let e = and_parts (p b) (list_all p bs) h.0 in
    rw (e.0, prefix_len-IsRun p bs rest (e.1, h.1)) (omega arith)
