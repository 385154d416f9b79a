-- Which tokens a text has, as the standard says it (ISO/IEC 19776-2): a head, and then white space,
-- comments and tokens. Where a piece ends depends on the rest of the text after it.
use Rattle.std.specs.Prelude.{◌≡◌, ◌≢◌, ◌⊎◌, ℕ, ◌≤◌, ℤ, Bool, not, List, [], ◌∷◌, ◌++◌, length, IsTrue, IsFalse, IsUtf8, codes}
use Rattle.std.specs.List.{list_all, flat_map}
use Rattle.x3d_numerals.specs.Numeral as stands
use Rattle.classic_lex.specs.declared.token.TokenKind.{TokenKind}
use Rattle.classic_lex.specs.declared.token.TokenKind.TheVariants.{Identifier, Numeral, Text, OpenBracket, CloseBracket, OpenBrace, CloseBrace, Point}
use Rattle.classic_lex.specs.declared.versions.Version.{Version}
use Rattle.classic_bytes.specs.Bytes.{is_space, is_line_end, is_digit, ends_numeral, continues_name, begins_name}
use Rattle.classic_lex.specs.Header.{max_len, byte_order_mark, version_text}
use Rattle.classic_lex.specs.Lexed.{Tok, line_after}

-- the rest doesn't begin with a byte of this class
abbrev pub NotAhead : (ℕ → Bool) → List ℕ → Type 0
NotAhead p [] = Unit {0}
NotAhead p (b ∷ bs) = IsFalse (p b)

-- the longest run of bytes of this class: the rest doesn't begin with one
abbrev pub IsRun : (ℕ → Bool) → List ℕ → List ℕ → Type 0
IsRun p run rest = IsTrue (list_all p run) × NotAhead p rest

-- ---- white space and comments

-- one byte of white space
abbrev pub IsWhiteSpace : List ℕ → Type 0
IsWhiteSpace [] = ⊥
IsWhiteSpace (b ∷ bs) = IsTrue (is_space b) × (bs ≡ [])

-- `#` and everything before the end of the line
abbrev pub IsComment : List ℕ → List ℕ → Type 0
IsComment [] rest = ⊥
IsComment (b ∷ bs) rest = (b ≡ 35) × IsRun (λ c. not (is_line_end c)) bs rest

-- ---- tokens

-- a byte that an identifier may begin with, and all bytes after it that an identifier may have
abbrev pub IsIdentifier : List ℕ → List ℕ → Type 0
IsIdentifier [] rest = ⊥
IsIdentifier (b ∷ bs) rest = IsTrue (begins_name b) × IsRun continues_name bs rest

abbrev pub BeginsWithDigit : List ℕ → Type 0
BeginsWithDigit [] = ⊥
BeginsWithDigit (b ∷ bs) = IsTrue (is_digit b)

-- a digit, a sign, or a point before a digit
abbrev pub BeginsNumeral : ℕ → List ℕ → Type 0
BeginsNumeral b bs = IsTrue (is_digit b) ⊎ ((b ≡ 43) ⊎ ((b ≡ 45) ⊎ ((b ≡ 46) × BeginsWithDigit bs)))

-- bytes that begin like a numeral, up to the next white space, bracket, brace, quote or comment;
-- together they are a numeral (our choice: any other run is a fault)
abbrev pub IsNumeral : List ℕ → List ℕ → Type 0
IsNumeral [] rest = ⊥
IsNumeral (b ∷ bs) rest = BeginsNumeral b bs × IsRun (λ c. not (ends_numeral c)) bs rest
    × ((n : ℤ) × stands.IsNumeral (b ∷ bs) n)

-- the bytes after the quote that opens a string, up to and including the one that closes it: bytes
-- other than a quote and a backslash, and pairs of a backslash and any byte
pub data IsClosed : List ℕ → Type 0 where
  quote : IsClosed (34 ∷ [])
  plain : {b : ℕ} {bs : List ℕ} → b ≢ 34 → b ≢ 92 → IsClosed bs → IsClosed (b ∷ bs)
  pair : {c : ℕ} {bs : List ℕ} → IsClosed bs → IsClosed (92 ∷ c ∷ bs)

abbrev pub IsString : List ℕ → Type 0
IsString [] = ⊥
IsString (b ∷ bs) = (b ≡ 34) × IsClosed bs

-- a token of this kind, with the rest of the text after it
abbrev pub IsToken : TokenKind → List ℕ → List ℕ → Type 0
IsToken Identifier bytes rest = IsIdentifier bytes rest
IsToken Numeral bytes rest = IsNumeral bytes rest
IsToken Text bytes rest = IsString bytes
IsToken OpenBracket bytes rest = bytes ≡ codes "["
IsToken CloseBracket bytes rest = bytes ≡ codes "]"
IsToken OpenBrace bytes rest = bytes ≡ codes "{"
IsToken CloseBrace bytes rest = bytes ≡ codes "}"
IsToken Point bytes rest = (bytes ≡ codes ".") × NotAhead is_digit rest

-- ---- the pieces of a text

-- white space or a comment, or a token
pub data Piece : Type 0 where
  blank : List ℕ → Piece
  token : TokenKind → List ℕ → Piece

abbrev pub bytes_of : Piece → List ℕ
bytes_of (blank bytes) = bytes
bytes_of (token kind bytes) = bytes

-- the text made of the pieces
abbrev pub text_of : List Piece → List ℕ
text_of pieces = flat_map bytes_of pieces

abbrev pub IsPiece : Piece → List ℕ → Type 0
IsPiece (blank bytes) rest = IsWhiteSpace bytes ⊎ IsComment bytes rest
IsPiece (token kind bytes) rest = IsToken kind bytes rest

-- each is a piece, followed by the next ones
abbrev pub ArePieces : List Piece → Type 0
ArePieces [] = Unit {0}
ArePieces (piece ∷ pieces) = IsPiece piece (text_of pieces) × ArePieces pieces

-- the tokens among the pieces, which begin on this line
abbrev pub tokens_among : ℕ → List Piece → List Tok
tokens_among line [] = []
tokens_among line (blank bytes ∷ pieces) = tokens_among (line_after line bytes) pieces
tokens_among line (token kind bytes ∷ pieces) =
    record { kind = kind; text = bytes; line = line } ∷ tokens_among (line_after line bytes) pieces

-- ---- a text

-- `#X3D V`, the version and ` utf8`, followed by white space or the end
pub record IsHeader (version : Version) (body : List ℕ) : Type 0 where
  pub rest : List ℕ
  pub spelled : codes "#X3D V" ++ (version_text version ++ (codes " utf8" ++ rest)) ≡ body
  pub ends : NotAhead (λ b. not (is_space b)) rest

-- at most 16 MiB of UTF-8 (our choice), with a header of this version after an optional byte order
-- mark (our choice)
pub record IsHeaded (text : List ℕ) (version : Version) (body : List ℕ) : Type 0 where
  pub size : length text ≤ max_len
  pub encoded : IsUtf8 text
  pub mark : List ℕ
  pub marked : (mark ≡ []) ⊎ (mark ≡ byte_order_mark)
  pub spelled : mark ++ body ≡ text
  pub header : IsHeader version body

-- the text's header names this version
pub record HasVersion (text : List ℕ) (version : Version) : Type 0 where
  pub body : List ℕ
  pub headed : IsHeaded text version body

-- the text has these tokens; its header line is a comment
pub record HasTokens (text : List ℕ) (tokens : List Tok) : Type 0 where
  pub version : Version
  pub body : List ℕ
  pub headed : IsHeaded text version body
  pub pieces : List Piece
  pub spelled : text_of pieces ≡ body
  pub cut : ArePieces pieces
  pub are : tokens_among 1 pieces ≡ tokens
