-- The first line of a text, and the lines after it.
use Rattle.std.proofs.Common.{◌≡◌, ℕ, ◌+◌, ◌<◌, ◌≤◌, List, [], ◌∷◌, length, Bool, true, false, not, cond, nat_lt, refl, inl, inr, arith, ◌==◌}
use Rattle.std.specs.List.{onto_first, slice_split, position_or_len, before_first, after_first}
use Rattle.std.specs.Str.Lines.{lines, lines_of_parts, strip_carriage_return}
use Rattle.std.proofs.lemmas.Bool.{cases_Bool, ltb-true, ltb-false, ne_eqb}
use Rattle.std.proofs.lemmas.List.{drop_all}
use Rattle.std.proofs.lemmas.List.Splits.{slice_split_first}
use Rattle.std.proofs.lemmas.List.Sums.{prefix_len-le-length}
use Rattle.share_rules.specs.Lines.{is_lf, first_line, behind_line}

-- a list is cut into one part at least
record HasParts {A : Type 0} (parts : List (List A)) : Type 0 where
  part : List A
  more : List (List A)
  is : parts ≡ part ∷ more

has_onto : {A : Type 0} (x : A) (parts : List (List A)) → HasParts (onto_first x parts)
has_onto x [] = record { part = x ∷ []; more = []; is = refl }
has_onto x (p ∷ ps) = record { part = x ∷ p; more = ps; is = refl }

has_parts : {A : Type 0} (p : A → Bool) (xs : List A) → HasParts (slice_split p xs)
has_parts p [] = record { part = []; more = []; is = refl }
has_parts p (x ∷ xs) =
    elim (p x) as (λ b. HasParts (cond b ([] ∷ slice_split p xs) (onto_first x (slice_split p xs)))) [
      | true ↦ record { part = []; more = slice_split p xs; is = refl }
      | false ↦ has_onto x (slice_split p xs)
    ]

whole_part : {A : Type 0} (p : A → Bool) (xs : List A) → position_or_len p xs ≡ length xs → slice_split p xs ≡ xs ∷ []
whole_part p [] h = refl
whole_part p (x ∷ xs) h = elim (cases_Bool (p x)) [
  | inl passes ↦ let none : 0 ≡ length (x ∷ xs) = rw passes at h in absurd (omega arith)
  | inr fails ↦
      let more : 1 + position_or_len p xs ≡ length (x ∷ xs) = rw fails at h in
      let rest : position_or_len p xs ≡ length xs = omega arith in
      rw (fails, whole_part p xs rest) refl
]

lines_from : (line : List ℕ) (parts : List (List ℕ)) → HasParts parts → lines_of_parts (line ∷ parts) ≡ strip_carriage_return line ∷ lines_of_parts parts
lines_from line parts h = rw h.is refl

cut_ended : (text : List ℕ) → position_or_len is_lf text < length text → nat_lt (position_or_len is_lf text) (length text) ≡ true → lines text ≡ first_line text ∷ lines (behind_line text)
unfolding first_line behind_line
cut_ended text h e =
    let parts : slice_split is_lf text ≡ before_first is_lf text ∷ slice_split is_lf (after_first is_lf text) = slice_split_first is_lf text 0 h in
    rw (e, parts) (lines_from _ _ (has_parts is_lf (after_first is_lf text)))

cut_open : (text : List ℕ) → 0 < length text → position_or_len is_lf text ≡ length text → nat_lt (position_or_len is_lf text) (length text) ≡ false → lines text ≡ first_line text ∷ lines (behind_line text)
unfolding first_line behind_line
cut_open text some all e =
    let parts : slice_split is_lf text ≡ text ∷ [] = whole_part is_lf text all in
    let none : after_first is_lf text ≡ [] = drop_all (position_or_len is_lf text + 1) text (omega arith) in
    let full : (length text == 0) ≡ false = ne_eqb (length text) 0 (λ z. absurd (omega arith)) in
    rw (e, none, parts, full) refl

pub cut : (text : List ℕ) → 0 < length text → lines text ≡ first_line text ∷ lines (behind_line text)
cut text some = elim (cases_Bool (nat_lt (position_or_len is_lf text) (length text))) [
  | inl passes ↦ cut_ended text (ltb-true (position_or_len is_lf text) (length text) passes) passes
  | inr fails ↦
      let least : length text ≤ position_or_len is_lf text = ltb-false (position_or_len is_lf text) (length text) fails in
      let most : position_or_len is_lf text ≤ length text = prefix_len-le-length (λ b. not (is_lf b)) text in
      cut_open text some (omega arith) fails
]
