-- Bytes that begin with others.
use Rattle.std.proofs.Common.{◌≡◌, ℕ, Bool, true, false, List, ◌++◌, length, take, drop, ap, sym, ◌∙◌}
use Rattle.std.specs.Prelude.{[], Option, None, Some, if◌then◌else◌, nat_lt}
use Rattle.std.proofs.lemmas.List.{take-append-drop}
use Rattle.std.proofs.lemmas.Option.{none-some}
use Rattle.byte_codec.specs.Codec.{chunk_at}

-- the bytes after a front
pub front-is : (front bytes head rest : List ℕ) → head ≡ take (length front) bytes → rest ≡ drop (length front) bytes → head ≡ front → bytes ≡ front ++ rest
front-is front bytes head rest of behind same =
    sym (take-append-drop (length front) bytes) ∙ ap (λ (l : List ℕ). l ++ drop (length front) bytes) (sym of ∙ same) ∙ ap (λ (l : List ℕ). front ++ l) (sym behind)

-- ---- a front that is taken off

abbrev head-of : Option (List ℕ × List ℕ) → List ℕ
head-of None = []
head-of (Some parts) = parts.0

abbrev rest-of : Option (List ℕ × List ℕ) → List ℕ
rest-of None = []
rest-of (Some parts) = parts.1

pub taken-off : (n : ℕ) (bytes head rest : List ℕ) → Some (head, rest) ≡ chunk_at n bytes → (head ≡ take n bytes) × (rest ≡ drop n bytes)
taken-off n bytes head rest e = by (nat_lt (length bytes) n) e where
  by : (b : Bool) → ◌≡◌ {A = Option (List ℕ × List ℕ)} (Some (head, rest)) (if b then None else Some (take n bytes, drop n bytes)) → (head ≡ take n bytes) × (rest ≡ drop n bytes)
  by true e = absurd (none-some (head, rest) (sym e))
  by false e = (ap head-of e, ap rest-of e)
