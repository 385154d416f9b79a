-- What stands at the front is a piece before the rest.
use Rattle.std.proofs.Common.{◌≡◌, ℕ, ℤ, suc, ◌+◌, ◌<◌, ◌≤◌, List, [], ◌∷◌, length, take, drop, Bool, true, false, not, ◌||◌, ◌&&◌, Option, Some, None, Result, Ok, Err, refl, ap, arith, inl, inr, ◌==◌}
use Rattle.std.proofs.Math.Numerals.{add-one, one-add}
use Rattle.std.specs.List.{prefix_len}
use Rattle.std.specs.Prelude.{nat_le}
use Rattle.std.proofs.lemmas.Bool.{cond_both, or_cases, or_parts, and_parts, eqb-true, eq-eqb, ne_eqb, leb-true}
use Rattle.std.proofs.lemmas.List.Sums.{prefix_len-le-length}
use Rattle.x3d_numerals.proofs.Numerals.{numeral_sound}
use Rattle.x3d_numerals.specs.Reading.{numeral}
use Rattle.x3d_numerals.specs.declared.fault.NumeralFault.{NumeralFault}
use Rattle.x3d_numerals.specs.declared.fault.NumeralFault.TheVariants as numeral_fault
use Rattle.classic_lex.specs.declared.token.TokenKind.TheVariants.{Identifier}
use Rattle.classic_lex.specs.declared.front.Start.{Start}
use Rattle.classic_lex.specs.declared.front.Start.TheVariants as start
use Rattle.classic_bytes.specs.Bytes.{is_space, is_line_end, is_digit, ends_numeral, continues_name, begins_name}
use Rattle.classic_bytes.specs.Strings.{closing}
use Rattle.classic_lex.specs.Front.{string_front, begins_digit, begins_numeral, numeral_len, numeral_piece, mark, front_at, front}
use Rattle.classic_lex.specs.Tokens.{NotAhead, BeginsWithDigit, BeginsNumeral, IsPiece, blank, token}
use Rattle.classic_lex.proofs.Runs.{IsRun-prefix}
use Rattle.classic_lex.proofs.StringLemmas.{IsClosed-take, closing-within}

-- the bytes at the front are the piece that is told, within the text
abbrev pub Tells : Start → List ℕ → Type 0
Tells (start.Blank n) text = (0 < n) × (n ≤ length text) × IsPiece (blank (take n text)) (drop n text)
Tells (start.Piece k n) text = (0 < n) × (n ≤ length text) × IsPiece (token k (take n text)) (drop n text)
Tells (start.Bad f) text = Unit {0}

-- ---- comments and strings

comment_told : (b : ℕ) (bs : List ℕ) → b ≡ 35 → Tells (start.Blank (prefix_len (λ c. not (is_line_end c)) bs + 1)) (b ∷ bs)
comment_told b bs e =
    let p : ℕ → Bool = λ c. not (is_line_end c) in
    let w = prefix_len-le-length p bs in
    rw (add-one (prefix_len p bs)) (omega arith, omega arith, inr (e, IsRun-prefix p bs))

string_told : (b : ℕ) (bs : List ℕ) → b ≡ 34 → (o : Option ℕ) → closing false bs ≡ o → Tells (string_front o) (b ∷ bs)
string_told b bs e None h = tt
string_told b bs e (Some n) h =
    let w = closing-within false bs n h in
    rw (add-one n) (omega arith, omega arith, (e, IsClosed-take bs n h))

-- ---- numerals

-- a digit ends no numeral
digit_within : (d : ℕ) → is_digit d ≡ true → ends_numeral d ≡ false
unfolding is_digit ends_numeral is_space
digit_within d h =
    let e = and_parts (nat_le 48 d) (nat_le d 57) h in
    let low : 48 ≤ d = leb-true 48 d e.0 in
    let high : d ≤ 57 = leb-true d 57 e.1 in
    rw (
      ne_eqb d 32 (λ q. omega arith),
      ne_eqb d 9 (λ q. omega arith),
      ne_eqb d 13 (λ q. omega arith),
      ne_eqb d 10 (λ q. omega arith),
      ne_eqb d 44 (λ q. omega arith),
      ne_eqb d 91 (λ q. omega arith),
      ne_eqb d 93 (λ q. omega arith),
      ne_eqb d 123 (λ q. omega arith),
      ne_eqb d 125 (λ q. omega arith),
      ne_eqb d 34 (λ q. omega arith),
      ne_eqb d 35 (λ q. omega arith),
    ) refl

digit_ahead : (bs : List ℕ) → begins_digit bs ≡ true → BeginsWithDigit (take (numeral_len bs) bs)
digit_ahead [] h = cc
digit_ahead (d ∷ ds) h = rw (digit_within d h, one-add) h

begins : (b : ℕ) (bs : List ℕ) → begins_numeral b bs ≡ true → BeginsNumeral b (take (numeral_len bs) bs)
unfolding begins_numeral
begins b bs h = elim (or_cases (is_digit b || b == 43 || b == 45) (b == 46 && begins_digit bs) h) [
  | inl h' ↦ elim (or_cases (is_digit b || b == 43) (b == 45) h') [
    | inl h'' ↦ elim (or_cases (is_digit b) (b == 43) h'') [
      | inl e ↦ inl e
      | inr e ↦ inr (inl (eqb-true b 43 e))
    ]
    | inr e ↦ inr (inr (inl (eqb-true b 45 e)))
  ]
  | inr e ↦ (let p = and_parts (b == 46) (begins_digit bs) e in inr (inr (inr (eqb-true b 46 p.0, digit_ahead bs p.1))))
]

numeral_told : (b : ℕ) (bs : List ℕ) → begins_numeral b bs ≡ true → (r : Result ℤ NumeralFault) → numeral (b ∷ take (numeral_len bs) bs) ≡ r
    → Tells (numeral_piece (suc (numeral_len bs)) r) (b ∷ bs)
numeral_told b bs h (Ok n) is =
    let p : ℕ → Bool = λ c. not (ends_numeral c) in
    let w = prefix_len-le-length p bs in
    (omega arith, omega arith, (begins b bs h, IsRun-prefix p bs, (n, numeral_sound (b ∷ take (numeral_len bs) bs) n is)))
numeral_told b bs h (Err numeral_fault.NotNumeral) is = tt
numeral_told b bs h (Err numeral_fault.NumberRange) is = tt

-- ---- names and marks

name_told : (b : ℕ) (bs : List ℕ) → begins_name b ≡ true → Tells (start.Piece Identifier (prefix_len continues_name bs + 1)) (b ∷ bs)
name_told b bs e =
    let w = prefix_len-le-length continues_name bs in
    rw (add-one (prefix_len continues_name bs)) (omega arith, omega arith, (e, IsRun-prefix continues_name bs))

one_byte : (b m : ℕ) → b ≡ m → ◌≡◌ {A = List ℕ} (b ∷ []) (m ∷ [])
one_byte b m e = ap (λ (x : ℕ). x ∷ []) e

not_ahead : (bs : List ℕ) → begins_digit bs ≡ false → NotAhead is_digit bs
not_ahead [] h = tt
not_ahead (d ∷ ds) h = h

-- behind a point that begins no numeral stands no digit
no_digit : (b : ℕ) (bs : List ℕ) → b ≡ 46 → begins_numeral b bs ≡ false → NotAhead is_digit bs
unfolding begins_numeral
no_digit b bs e h =
    let p = or_parts (is_digit b || b == 43 || b == 45) (b == 46 && begins_digit bs) h in
    not_ahead bs (rw (eq-eqb b 46 e) at p.1)

mark_told : (b : ℕ) (bs : List ℕ) → begins_numeral b bs ≡ false → Tells (mark b) (b ∷ bs)
unfolding mark
mark_told b bs none =
    let P : Start → Type 0 = λ s. Tells s (b ∷ bs) in
    cond_both (b == 123) _ _ P (λ e. (omega arith, omega arith, one_byte b 123 (eqb-true b 123 e)))
    (λ _. cond_both (b == 125) _ _ P (λ e. (omega arith, omega arith, one_byte b 125 (eqb-true b 125 e)))
    (λ _. cond_both (b == 91) _ _ P (λ e. (omega arith, omega arith, one_byte b 91 (eqb-true b 91 e)))
    (λ _. cond_both (b == 93) _ _ P (λ e. (omega arith, omega arith, one_byte b 93 (eqb-true b 93 e)))
    (λ _. cond_both (b == 46) _ _ P (λ e. (omega arith, omega arith, (one_byte b 46 (eqb-true b 46 e), no_digit b bs (eqb-true b 46 e) none)))
    (λ _. tt)))))

-- ---- the front

pub front_told : (b : ℕ) (bs : List ℕ) → Tells (front (b ∷ bs)) (b ∷ bs)
unfolding front_at
front_told b bs =
    let P : Start → Type 0 = λ s. Tells s (b ∷ bs) in
    cond_both (is_space b) _ _ P (λ e. (omega arith, omega arith, inl (e, refl)))
    (λ _. cond_both (b == 35) _ _ P (λ e. comment_told b bs (eqb-true b 35 e))
    (λ _. cond_both (b == 34) _ _ P (λ e. string_told b bs (eqb-true b 34 e) (closing false bs) refl)
    (λ _. cond_both (begins_numeral b bs) _ _ P (λ e. rw (add-one (numeral_len bs)) (numeral_told b bs e (numeral (b ∷ take (numeral_len bs) bs)) refl))
    (λ none. cond_both (begins_name b) _ _ P (λ e. name_told b bs e)
    (λ _. mark_told b bs none)))))
