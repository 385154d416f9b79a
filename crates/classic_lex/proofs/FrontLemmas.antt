-- A piece before the rest is what stands at the front.
use Rattle.std.proofs.Common.{◌≡◌, ℕ, ℤ, suc, ◌+◌, ◌<◌, ◌≤◌, List, [], ◌∷◌, ◌++◌, length, true, false, not, Ok, refl, sym, subst, ap, arith, inl, inr, ◌==◌}
use Rattle.std.proofs.Math.Numerals.{add-one}
use Rattle.std.proofs.Math.Seq.{take-append_seam}
use Rattle.std.specs.Prelude.{nat_le}
use Rattle.std.proofs.lemmas.Bool.{and_parts, or_parts, eq-eqb, ne_eqb, leb-true, leb-false, not-true, or_left, or_right, and_from}
use Rattle.x3d_numerals.proofs.Numerals.{numeral_complete}
use Rattle.x3d_numerals.specs.Reading.{numeral}
use Rattle.classic_lex.specs.declared.token.TokenKind.{TokenKind}
use Rattle.classic_lex.specs.declared.token.TokenKind.TheVariants.{Identifier, Numeral, Text, OpenBracket, CloseBracket, OpenBrace, CloseBrace, Point}
use Rattle.classic_lex.specs.declared.front.Start.{Start}
use Rattle.classic_lex.specs.declared.front.Start.TheVariants as start
use Rattle.classic_bytes.specs.Bytes.{is_space, is_line_end, is_digit, ends_numeral, continues_name, begins_name}
use Rattle.classic_lex.specs.Front.{begins_digit, begins_numeral, numeral_len, numeral_front, mark, front_at, front}
use Rattle.classic_lex.specs.Tokens.{NotAhead, IsWhiteSpace, IsComment, IsIdentifier, BeginsWithDigit, BeginsNumeral, IsNumeral, IsString, IsToken, IsPiece, Piece, blank, token, bytes_of}
use Rattle.classic_lex.proofs.Runs.{prefix_len-IsRun}
use Rattle.classic_lex.proofs.StringLemmas.{closing-IsClosed}

-- what is told of a piece
abbrev pub start_of : Piece → Start
start_of (blank bytes) = start.Blank (length bytes)
start_of (token kind bytes) = start.Piece kind (length bytes)

white_front : (bytes rest : List ℕ) → IsWhiteSpace bytes → front (bytes ++ rest) ≡ start.Blank (length bytes)
unfolding front_at
white_front [] rest h = absurd h
white_front (b ∷ bs) rest h = rw (h.0, h.1) refl

comment_front : (bytes rest : List ℕ) → IsComment bytes rest → front (bytes ++ rest) ≡ start.Blank (length bytes)
unfolding front_at is_space
comment_front [] rest h = absurd h
comment_front (b ∷ bs) rest h = rw (h.0, prefix_len-IsRun (λ c. not (is_line_end c)) bs rest h.1) (ap start.Blank (add-one (length bs)))

string_front : (bytes rest : List ℕ) → IsString bytes → front (bytes ++ rest) ≡ start.Piece Text (length bytes)
unfolding front_at is_space
string_front [] rest h = absurd h
string_front (b ∷ bs) rest h = rw (h.0, closing-IsClosed h.1 rest) (ap (start.Piece Text) (add-one (length bs)))

-- ---- names

-- what the first byte of an identifier is not
record IsNameByte (b : ℕ) : Type 0 where
  space : is_space b ≡ false
  comment : (b == 35) ≡ false
  quote : (b == 34) ≡ false
  digit : is_digit b ≡ false
  plus : (b == 43) ≡ false
  minus : (b == 45) ≡ false
  point : (b == 46) ≡ false

name_byte : (b : ℕ) → begins_name b ≡ true → IsNameByte b
unfolding begins_name continues_name is_space
name_byte b h =
    let m = and_parts _ _ h in
    let p = and_parts _ _ m.0 in
    let d = and_parts _ _ p.0 in
    let n1 = or_parts _ _ (not-true _ d.0) in
    let n2 = or_parts _ _ n1.0 in
    let n3 = or_parts _ _ n2.0 in
    let n4 = or_parts _ _ n3.0 in
    let n5 = or_parts _ _ n4.0 in
    let n6 = or_parts _ _ n5.0 in
    let n7 = or_parts _ _ n6.0 in
    let n8 = or_parts _ _ n7.0 in
    let n9 = or_parts _ _ n8.0 in
    let n10 = or_parts _ _ n9.0 in
    let n11 = or_parts _ _ n10.0 in
    let above : 32 < b = leb-false b 32 n11.0 in
    record {
      space = rw (ne_eqb b 32 (λ e. omega arith), ne_eqb b 9 (λ e. omega arith), ne_eqb b 13 (λ e. omega arith), ne_eqb b 10 (λ e. omega arith), n8.1) refl;
      comment = n10.1;
      quote = n11.1;
      digit = not-true _ d.1;
      plus = not-true _ p.1;
      minus = not-true _ m.1;
      point = n7.1;
    }

name_front : (bytes rest : List ℕ) → IsIdentifier bytes rest → front (bytes ++ rest) ≡ start.Piece Identifier (length bytes)
unfolding front_at begins_numeral
name_front [] rest h = absurd h
name_front (b ∷ bs) rest h =
    let f = name_byte b h.0 in
    rw (f.space, f.comment, f.quote, f.digit, f.plus, f.minus, f.point, h.0, prefix_len-IsRun continues_name bs rest h.1) (ap (start.Piece Identifier) (add-one (length bs)))

-- ---- numerals

-- what the first byte of a numeral is not
record IsNumeralByte (b : ℕ) : Type 0 where
  space : is_space b ≡ false
  comment : (b == 35) ≡ false
  quote : (b == 34) ≡ false

numeral_byte : (b : ℕ) (bs : List ℕ) → BeginsNumeral b bs → IsNumeralByte b
unfolding is_digit is_space
numeral_byte b bs (inl d) =
    let e = and_parts (nat_le 48 b) (nat_le b 57) d in
    let low : 48 ≤ b = leb-true 48 b e.0 in
    record {
      space = rw (ne_eqb b 32 (λ q. omega arith), ne_eqb b 9 (λ q. omega arith), ne_eqb b 13 (λ q. omega arith), ne_eqb b 10 (λ q. omega arith), ne_eqb b 44 (λ q. omega arith)) refl;
      comment = ne_eqb b 35 (λ q. omega arith);
      quote = ne_eqb b 34 (λ q. omega arith);
    }
numeral_byte b bs (inr (inl e)) = subst IsNumeralByte (sym e) (record { space = refl; comment = refl; quote = refl })
numeral_byte b bs (inr (inr (inl e))) = subst IsNumeralByte (sym e) (record { space = refl; comment = refl; quote = refl })
numeral_byte b bs (inr (inr (inr e))) = subst IsNumeralByte (sym e.0) (record { space = refl; comment = refl; quote = refl })

digit_further : (bs rest : List ℕ) → BeginsWithDigit bs → begins_digit (bs ++ rest) ≡ true
digit_further [] rest h = absurd h
digit_further (d ∷ ds) rest h = h

begins_front : (b : ℕ) (bs rest : List ℕ) → BeginsNumeral b bs → begins_numeral b (bs ++ rest) ≡ true
unfolding begins_numeral
begins_front b bs rest (inl d) = or_left _ _ (or_left _ _ (or_left _ _ d))
begins_front b bs rest (inr (inl e)) = or_left _ _ (or_left _ _ (or_right _ _ (eq-eqb b 43 e)))
begins_front b bs rest (inr (inr (inl e))) = or_left _ _ (or_right _ _ (eq-eqb b 45 e))
begins_front b bs rest (inr (inr (inr e))) = or_right _ _ (and_from _ _ (eq-eqb b 46 e.0) (digit_further bs rest e.1))

-- the run is the numeral, whatever the rest
whole_run : (b : ℕ) (bs rest : List ℕ) (n : ℕ) (v : ℤ) → n ≡ length bs → numeral (b ∷ bs) ≡ Ok v → numeral_front (n + 1) (b ∷ (bs ++ rest)) ≡ start.Piece Numeral (suc (length bs))
whole_run b bs rest n v e is = rw (e, add-one (length bs), take-append_seam bs rest, is) refl

number_front : (bytes rest : List ℕ) → IsNumeral bytes rest → front (bytes ++ rest) ≡ start.Piece Numeral (length bytes)
unfolding front_at
number_front [] rest h = absurd h
number_front (b ∷ bs) rest h =
    let f = numeral_byte b bs h.0 in
    rw (f.space, f.comment, f.quote, begins_front b bs rest h.0) (whole_run b bs rest (numeral_len (bs ++ rest)) h.2.0 (prefix_len-IsRun (λ c. not (ends_numeral c)) bs rest h.1) (numeral_complete (b ∷ bs) h.2.0 h.2.1))

-- ---- the front

point_front : (rest : List ℕ) → NotAhead is_digit rest → front (46 ∷ rest) ≡ start.Piece Point 1
unfolding front_at is_space is_digit begins_numeral begins_name continues_name mark
point_front [] h = refl
point_front (b ∷ bs) h = rw h refl

mark_front : (m : ℕ) (k : TokenKind) (bytes rest : List ℕ) → bytes ≡ m ∷ [] → front (m ∷ rest) ≡ start.Piece k 1 → front (bytes ++ rest) ≡ start.Piece k (length bytes)
mark_front m k bytes rest e h = rw e h

token_front : (k : TokenKind) (bytes rest : List ℕ) → IsToken k bytes rest → front (bytes ++ rest) ≡ start.Piece k (length bytes)
unfolding front_at is_space is_digit begins_numeral begins_name continues_name mark
token_front Identifier bytes rest h = name_front bytes rest h
token_front Numeral bytes rest h = number_front bytes rest h
token_front Text bytes rest h = string_front bytes rest h
token_front OpenBracket bytes rest h = mark_front 91 OpenBracket bytes rest h refl
token_front CloseBracket bytes rest h = mark_front 93 CloseBracket bytes rest h refl
token_front OpenBrace bytes rest h = mark_front 123 OpenBrace bytes rest h refl
token_front CloseBrace bytes rest h = mark_front 125 CloseBrace bytes rest h refl
token_front Point bytes rest h = mark_front 46 Point bytes rest h.0 (point_front rest h.1)

pub front-IsPiece : (piece : Piece) (rest : List ℕ) → IsPiece piece rest → front (bytes_of piece ++ rest) ≡ start_of piece
front-IsPiece (blank bytes) rest (inl h) = white_front bytes rest h
front-IsPiece (blank bytes) rest (inr h) = comment_front bytes rest h
front-IsPiece (token k bytes) rest h = token_front k bytes rest h
