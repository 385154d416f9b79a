-- The tokens of a text are those of its pieces.
use Rattle.std.proofs.Common.{◌≡◌, ℕ, zero, suc, ◌+◌, ◌<◌, ◌≤◌, List, [], ◌∷◌, ◌++◌, length, take, drop, Ok, Err, refl, sym, subst, ap, ◌∙◌, arith, inl, inr, length-append}
use Rattle.std.proofs.lemmas.List.{take-append-drop, length-drop}
use Rattle.std.proofs.Math.Seq.{take-append_seam, drop-append_seam}
use Rattle.classic_lex.specs.declared.token.TokenKind.{TokenKind}
use Rattle.classic_lex.specs.declared.token.TokenKind.TheVariants.{Identifier, Numeral, Text, OpenBracket, CloseBracket, OpenBrace, CloseBrace, Point}
use Rattle.classic_lex.specs.declared.front.Start.{Start}
use Rattle.classic_lex.specs.declared.front.Start.TheVariants as start
use Rattle.classic_lex.specs.Front.{front, IsWithin}
use Rattle.classic_lex.specs.Lexed.{Tok, Toks, with_front, line_after, tokens_at}
use Rattle.classic_lex.specs.Tokens.{IsPiece, Piece, blank, token, bytes_of, text_of, ArePieces, tokens_among}
use Rattle.classic_lex.proofs.Cutting.{behind, by_start, at_front}
use Rattle.classic_lex.proofs.Fronts.{Tells, front_told}
use Rattle.classic_lex.proofs.FrontLemmas.{start_of, front-IsPiece}

-- ---- from tokens to pieces

-- the text from this line on is made of pieces with these tokens
pub record IsMade (line : ℕ) (text : List ℕ) (tokens : List Tok) : Type 0 where
  pub pieces : List Piece
  pub spelled : text_of pieces ≡ text
  pub cut : ArePieces pieces
  pub are : tokens_among line pieces ≡ tokens

within : (s : Start) (text : List ℕ) → Tells s text → IsWithin (length text) s
within (start.Blank n) text h = (h.0, h.1)
within (start.Piece k n) text h = (h.0, h.1)
within (start.Bad f) text h = tt

made_of_blank : (n line : ℕ) (text : List ℕ) (tokens : List Tok) → IsPiece (blank (take n text)) (drop n text) → IsMade (line_after line (take n text)) (drop n text) tokens → IsMade line text tokens
made_of_blank n line text tokens piece made = record {
  pieces = blank (take n text) ∷ made.pieces;
  spelled = ap (λ (t : List ℕ). take n text ++ t) made.spelled ∙ take-append-drop n text;
  cut = (subst (λ (t : List ℕ). IsPiece (blank (take n text)) t) (sym made.spelled) piece, made.cut);
  are = made.are;
}

made_of_token : (k : TokenKind) (n line : ℕ) (text : List ℕ) (tokens : List Tok) → IsPiece (token k (take n text)) (drop n text) → IsMade (line_after line (take n text)) (drop n text) tokens
    → IsMade line text (record { kind = k; text = take n text; line = line } ∷ tokens)
made_of_token k n line text tokens piece made = record {
  pieces = token k (take n text) ∷ made.pieces;
  spelled = ap (λ (t : List ℕ). take n text ++ t) made.spelled ∙ take-append-drop n text;
  cut = (subst (λ (t : List ℕ). IsPiece (token k (take n text)) t) (sym made.spelled) piece, made.cut);
  are = ap (λ (ts : List Tok). record { kind = k; text = take n text; line = line } ∷ ts) made.are;
}

-- the first token and what comes behind it
record Split (t : Tok) (read : Toks) (tokens : List Tok) : Type 0 where
  more : List Tok
  behind : read ≡ Ok more
  first : t ∷ more ≡ tokens

split : (t : Tok) (read : Toks) (tokens : List Tok) → with_front (t ∷ []) read ≡ Ok tokens → Split t read tokens
split t (Ok more) tokens h = record { more = more; behind = refl; first = cc }
split t (Err e) tokens h = cc

-- the texts of at most so many bytes are made of pieces
abbrev Makes : ℕ → Type 0
Makes most = (line : ℕ) (text : List ℕ) (tokens : List Tok) → length text ≤ most → tokens_at 0 line text ≡ Ok tokens → IsMade line text tokens

made : (most : ℕ) → Makes most → (line : ℕ) (text : List ℕ) (tokens : List Tok) → length text ≤ suc most → (s : Start) → Tells s text → by_start s line text ≡ Ok tokens → IsMade line text tokens
made most makes line text tokens short (start.Blank n) told h =
    made_of_blank n line text tokens told.2 (makes (line_after line (take n text)) (drop n text) tokens (omega (arith, length-drop n text, told.0)) h)
made most makes line text tokens short (start.Piece k n) told h =
    let s = split (record { kind = k; text = take n text; line = line }) (behind n line text) tokens h in
    subst (λ (ts : List Tok). IsMade line text ts) s.first (made_of_token k n line text s.more told.2 (makes (line_after line (take n text)) (drop n text) s.more (omega (arith, length-drop n text, told.0)) s.behind))
made most makes line text tokens short (start.Bad f) told h = cc

IsMade-from : (most : ℕ) → Makes most
unfolding tokens_at
IsMade-from most line [] tokens short h = record { pieces = []; spelled = refl; cut = tt; are = cc }
IsMade-from zero line (b ∷ bs) tokens short h = absurd (omega arith)
IsMade-from (suc most) line (b ∷ bs) tokens short h =
    let told = front_told b bs in
    let w = within (front (b ∷ bs)) (b ∷ bs) told in
    made most (IsMade-from most) line (b ∷ bs) tokens short (front (b ∷ bs)) told (sym (at_front line (b ∷ bs) (front (b ∷ bs)) refl (omega arith) w) ∙ h)

-- ---- from pieces to tokens

-- a piece has a byte
IsPiece-some : (piece : Piece) (rest : List ℕ) → IsPiece piece rest → 0 < length (bytes_of piece)
IsPiece-some (blank []) rest (inl h) = absurd h
IsPiece-some (blank []) rest (inr h) = absurd h
IsPiece-some (blank (b ∷ bs)) rest h = omega arith
IsPiece-some (token Identifier []) rest h = absurd h
IsPiece-some (token Numeral []) rest h = absurd h
IsPiece-some (token Text []) rest h = absurd h
IsPiece-some (token OpenBracket []) rest h = cc
IsPiece-some (token CloseBracket []) rest h = cc
IsPiece-some (token OpenBrace []) rest h = cc
IsPiece-some (token CloseBrace []) rest h = cc
IsPiece-some (token Point []) rest h = (let e = h.0 in cc)
IsPiece-some (token k (b ∷ bs)) rest h = omega arith

is_within : (piece : Piece) (text : List ℕ) → 0 < length (bytes_of piece) → length (bytes_of piece) ≤ length text → IsWithin (length text) (start_of piece)
is_within (blank bytes) text some room = (some, room)
is_within (token k bytes) text some room = (some, room)

-- the text of a piece and the rest, by what stands at its front
by_piece : (piece : Piece) (line : ℕ) (rest : List ℕ) → IsPiece piece rest → tokens_at 0 line (bytes_of piece ++ rest) ≡ by_start (start_of piece) line (bytes_of piece ++ rest)
by_piece piece line rest h =
    let some = IsPiece-some piece rest h in
    let text = bytes_of piece ++ rest in
    let l : length (bytes_of piece ++ rest) ≡ length (bytes_of piece) + length rest = length-append (bytes_of piece) rest in
    at_front line text (start_of piece) (sym (front-IsPiece piece rest h)) (omega arith) (is_within piece text some (omega arith))

behind_bytes : (bytes rest : List ℕ) (line : ℕ) → behind (length bytes) line (bytes ++ rest) ≡ tokens_at 0 (line_after line bytes) rest
behind_bytes bytes rest line = rw (take-append_seam bytes rest, drop-append_seam bytes rest) refl

pub tokens_at-text_of : (pieces : List Piece) (line : ℕ) → ArePieces pieces → tokens_at 0 line (text_of pieces) ≡ Ok (tokens_among line pieces)
unfolding tokens_at
tokens_at-text_of [] line h = refl
tokens_at-text_of (blank bytes ∷ pieces) line h =
    by_piece (blank bytes) line (text_of pieces) h.0 ∙ behind_bytes bytes (text_of pieces) line ∙ tokens_at-text_of pieces (line_after line bytes) h.1
tokens_at-text_of (token k bytes ∷ pieces) line h =
    let first : Tok = record { kind = k; text = bytes; line = line } in
    by_piece (token k bytes) line (text_of pieces) h.0
    ∙ ap (λ (t : List ℕ). with_front (record { kind = k; text = t; line = line } ∷ []) (behind (length bytes) line (bytes ++ text_of pieces))) (take-append_seam bytes (text_of pieces))
    ∙ ap (with_front (first ∷ [])) (behind_bytes bytes (text_of pieces) line ∙ tokens_at-text_of pieces (line_after line bytes) h.1)

pub IsMade-tokens_at : (line : ℕ) (text : List ℕ) (tokens : List Tok) → tokens_at 0 line text ≡ Ok tokens → IsMade line text tokens
IsMade-tokens_at line text tokens h = IsMade-from (length text) line text tokens (omega arith) h
