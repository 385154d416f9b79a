-- The tokens of a text are UTF-8.
use Rattle.std.proofs.Common.{◌≡◌, ℕ, zero, suc, ◌<◌, ◌≤◌, List, [], ◌∷◌, ◌++◌, length, drop, get_or, Bool, true, false, not, refl, sym, subst, ap, arith, inl, inr, append_assoc, append-nil, length-append}
use Rattle.std.specs.Prelude.{All, IsUtf8, codes}
use Rattle.std.proofs.Math.Seq.{take-append_seam, drop-append_seam}
use Rattle.std.proofs.lemmas.Bool.{cases_lt, ne_eqb, lt-leb}
use Rattle.std.proofs.lemmas.List.Elements.{All-nil, All-cons}
use Rattle.std.proofs.lemmas.Str.{IsUtf8-append, IsUtf8-from_ascii, IsUtf8-take, IsUtf8-drop, IsCharBoundary-before_ascii, IsCharBoundary-after_ascii}
use Rattle.classic_lex.specs.declared.token.TokenKind.{TokenKind}
use Rattle.classic_lex.specs.declared.token.TokenKind.TheVariants.{Identifier, Numeral, Text, OpenBracket, CloseBracket, OpenBrace, CloseBrace, Point}
use Rattle.classic_bytes.specs.Bytes.{is_space, is_line_end, ends_numeral, continues_name}
use Rattle.classic_lex.specs.Lexed.{Tok, line_after}
use Rattle.classic_lex.specs.declared.versions.Version.{Version}
use Rattle.classic_lex.specs.Header.{version_text}
use Rattle.classic_lex.specs.Tokens.{NotAhead, IsWhiteSpace, IsComment, IsClosed, quote, plain, pair, IsToken, Piece, blank, token, text_of, ArePieces, tokens_among, IsHeader, HasTokens}

-- ---- where a text may be cut

one_byte : (c : ℕ) → c < 128 → IsUtf8 (c ∷ [])
one_byte c h = IsUtf8-from_ascii (c ∷ []) (λ i. below i)
  where
    below : (i : ℕ) → get_or (c ∷ []) i 0 < 128
    below zero = h
    below (suc i) = omega arith

at_seam : (xs : List ℕ) (a : ℕ) (ys : List ℕ) → get_or (xs ++ a ∷ ys) (length xs) 0 ≡ a
at_seam [] a ys = refl
at_seam (x ∷ xs) a ys = at_seam xs a ys

-- the parts of a text are UTF-8
abbrev Parts : List ℕ → List ℕ → Type 0
Parts xs ys = IsUtf8 xs × IsUtf8 ys

module _ (xs : List ℕ) (a : ℕ) (ys : List ℕ) (small : a < 128) (u : IsUtf8 (xs ++ a ∷ ys)) where
  within : length xs < length (xs ++ a ∷ ys)
  within = omega (arith, length-append xs (a ∷ ys))

  ascii : get_or (xs ++ a ∷ ys) (length xs) 0 < 128
  ascii = rw (at_seam xs a ys) small

  front : IsUtf8 xs
  front = subst IsUtf8 (take-append_seam xs (a ∷ ys)) (IsUtf8-take (xs ++ a ∷ ys) (length xs) u (IsCharBoundary-before_ascii (xs ++ a ∷ ys) (length xs) within ascii))

  back : IsUtf8 (a ∷ ys)
  back = subst IsUtf8 (drop-append_seam xs (a ∷ ys)) (IsUtf8-drop (xs ++ a ∷ ys) (length xs) u (IsCharBoundary-before_ascii (xs ++ a ∷ ys) (length xs) within ascii))

  parts_before : Parts xs (a ∷ ys)
  parts_before = (front, back)

  parts_after : Parts (xs ++ a ∷ []) ys
  parts_after = (IsUtf8-append xs (a ∷ []) front (one_byte a small), IsUtf8-drop (a ∷ ys) 1 back (IsCharBoundary-after_ascii (a ∷ ys) 0 back (omega arith) small))

-- before a rest that begins with ASCII or is empty
before_rest : (p : ℕ → Bool) → ((c : ℕ) → p c ≡ false → c < 128) → (bytes rest : List ℕ) → NotAhead p rest → IsUtf8 (bytes ++ rest) → Parts bytes rest
before_rest p small bytes [] h u = (rw append-nil at u, one_none)
  where
    one_none : IsUtf8 []
    one_none = ([], (refl, refl))
before_rest p small bytes (a ∷ ys) h u = parts_before bytes a ys (small a h) u

-- behind bytes that end with ASCII
record EndsWith (bytes : List ℕ) (a : ℕ) : Type 0 where
  before : List ℕ
  is : before ++ a ∷ [] ≡ bytes

behind_bytes : (bytes : List ℕ) (a : ℕ) (rest : List ℕ) → a < 128 → EndsWith bytes a → IsUtf8 (bytes ++ rest) → Parts bytes rest
behind_bytes bytes a rest small e u =
    let v : IsUtf8 ((e.before ++ a ∷ []) ++ rest) = subst (λ (t : List ℕ). IsUtf8 (t ++ rest)) (sym e.is) u in
    let w : IsUtf8 (e.before ++ a ∷ rest) = rw append_assoc at v in
    let p = parts_after e.before a rest small w in
    (subst IsUtf8 e.is p.0, p.1)

-- ---- which bytes are ASCII

large : (c : ℕ) (q : Bool) → q ≡ false → (128 ≤ c → q ≡ true) → c < 128
large c q e f = elim (cases_lt c 128) [ inl l ↦ l | inr l ↦ let k = f l in cc ]

line_end_small : (c : ℕ) → not (is_line_end c) ≡ false → c < 128
unfolding is_line_end
line_end_small c e = large c _ e (λ l. rw (ne_eqb c 13 (λ q. omega arith), ne_eqb c 10 (λ q. omega arith)) refl)

numeral_end_small : (c : ℕ) → not (ends_numeral c) ≡ false → c < 128
unfolding ends_numeral is_space
numeral_end_small c e = large c _ e (λ l. rw (ne_eqb c 32 (λ q. omega arith), ne_eqb c 9 (λ q. omega arith), ne_eqb c 13 (λ q. omega arith), ne_eqb c 10 (λ q. omega arith), ne_eqb c 44 (λ q. omega arith), ne_eqb c 91 (λ q. omega arith), ne_eqb c 93 (λ q. omega arith), ne_eqb c 123 (λ q. omega arith), ne_eqb c 125 (λ q. omega arith), ne_eqb c 34 (λ q. omega arith), ne_eqb c 35 (λ q. omega arith)) refl)

space_small : (c : ℕ) → is_space c ≡ true → c < 128
unfolding ends_numeral
space_small c e = numeral_end_small c (rw e refl)

name_end_small : (c : ℕ) → continues_name c ≡ false → c < 128
unfolding continues_name
name_end_small c e = large c _ e (λ l. rw (lt-leb c 32 (omega arith), ne_eqb c 34 (λ q. omega arith), ne_eqb c 35 (λ q. omega arith), ne_eqb c 39 (λ q. omega arith), ne_eqb c 44 (λ q. omega arith), ne_eqb c 46 (λ q. omega arith), ne_eqb c 91 (λ q. omega arith), ne_eqb c 92 (λ q. omega arith), ne_eqb c 93 (λ q. omega arith), ne_eqb c 123 (λ q. omega arith), ne_eqb c 125 (λ q. omega arith), ne_eqb c 127 (λ q. omega arith)) refl)

-- ---- pieces

closed_end : {bs : List ℕ} → IsClosed bs → EndsWith bs 34
closed_end quote = record { before = []; is = refl }
closed_end (plain {b} {bs} other further closed) = (let e = closed_end closed in record { before = b ∷ e.before; is = ap (λ (t : List ℕ). b ∷ t) e.is })
closed_end (pair {c} {bs} closed) = (let e = closed_end closed in record { before = 92 ∷ c ∷ e.before; is = ap (λ (t : List ℕ). 92 ∷ c ∷ t) e.is })

alone : (bytes : List ℕ) (a : ℕ) → bytes ≡ a ∷ [] → EndsWith bytes a
alone bytes a e = record { before = []; is = sym e }

white_parts : (bytes rest : List ℕ) → IsWhiteSpace bytes → IsUtf8 (bytes ++ rest) → Parts bytes rest
white_parts [] rest h u = absurd h
white_parts (b ∷ bs) rest h u = behind_bytes (b ∷ bs) b rest (space_small b h.0) (record { before = []; is = ap (λ (t : List ℕ). b ∷ t) (sym h.1) }) u

comment_parts : (bytes rest : List ℕ) → IsComment bytes rest → IsUtf8 (bytes ++ rest) → Parts bytes rest
comment_parts [] rest h u = absurd h
comment_parts (b ∷ bs) rest h u = before_rest (λ c. not (is_line_end c)) line_end_small (b ∷ bs) rest h.1.1 u

token_parts : (k : TokenKind) (bytes rest : List ℕ) → IsToken k bytes rest → IsUtf8 (bytes ++ rest) → Parts bytes rest
token_parts Identifier [] rest h u = absurd h
token_parts Identifier (b ∷ bs) rest h u = before_rest continues_name name_end_small (b ∷ bs) rest h.1.1 u
token_parts Numeral [] rest h u = absurd h
token_parts Numeral (b ∷ bs) rest h u = before_rest (λ c. not (ends_numeral c)) numeral_end_small (b ∷ bs) rest h.1.1 u
token_parts Text [] rest h u = absurd h
token_parts Text (b ∷ bs) rest h u =
    let e = closed_end h.1 in
    behind_bytes (b ∷ bs) 34 rest (omega arith) (record { before = b ∷ e.before; is = ap (λ (t : List ℕ). b ∷ t) e.is }) u
token_parts OpenBracket bytes rest h u = behind_bytes bytes 91 rest (omega arith) (alone bytes 91 h) u
token_parts CloseBracket bytes rest h u = behind_bytes bytes 93 rest (omega arith) (alone bytes 93 h) u
token_parts OpenBrace bytes rest h u = behind_bytes bytes 123 rest (omega arith) (alone bytes 123 h) u
token_parts CloseBrace bytes rest h u = behind_bytes bytes 125 rest (omega arith) (alone bytes 125 h) u
token_parts Point bytes rest h u = behind_bytes bytes 46 rest (omega arith) (alone bytes 46 h.0) u

among : (line : ℕ) (pieces : List Piece) → ArePieces pieces → IsUtf8 (text_of pieces) → All (λ (t : Tok). IsUtf8 t.text) (tokens_among line pieces)
among line [] h u = All-nil (λ (t : Tok). IsUtf8 t.text)
among line (blank bytes ∷ pieces) (inl h, more) u = among (line_after line bytes) pieces more (white_parts bytes (text_of pieces) h u).1
among line (blank bytes ∷ pieces) (inr h, more) u = among (line_after line bytes) pieces more (comment_parts bytes (text_of pieces) h u).1
among line (token k bytes ∷ pieces) (h, more) u =
    let p = token_parts k bytes (text_of pieces) h u in
    All-cons (λ (t : Tok). IsUtf8 t.text) _ _ p.0 (among (line_after line bytes) pieces more p.1)

-- the body begins with ASCII
body_utf8 : (mark body : List ℕ) (v : Version) → IsHeader v body → IsUtf8 (mark ++ body) → IsUtf8 body
body_utf8 mark body v h u =
    let behind : List ℕ = drop 1 (codes "#X3D V") ++ (version_text v ++ (codes " utf8" ++ h.rest)) in
    let e : 35 ∷ behind ≡ body = h.spelled in
    let w : IsUtf8 (mark ++ 35 ∷ behind) = subst (λ (t : List ℕ). IsUtf8 (mark ++ t)) (sym e) u in
    subst IsUtf8 e (parts_before mark 35 behind (omega arith) w).1

pub IsUtf8-HasTokens : (text : List ℕ) (tokens : List Tok) → HasTokens text tokens → All (λ t. IsUtf8 t.text) tokens
IsUtf8-HasTokens text tokens h =
    let u : IsUtf8 (h.headed.mark ++ h.body) = subst IsUtf8 (sym h.headed.spelled) h.headed.encoded in
    let v : IsUtf8 (text_of h.pieces) = subst IsUtf8 (sym h.spelled) (body_utf8 h.headed.mark h.body h.version h.headed.header u) in
    subst (All (λ (t : Tok). IsUtf8 t.text)) h.are (among 1 h.pieces h.cut v)
