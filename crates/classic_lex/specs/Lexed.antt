-- The tokens of a text.
use Rattle.std.specs.Prelude.{ℕ, zero, suc, ◌+◌, ◌-◌, List, [], ◌∷◌, ◌++◌, take, ◌==◌, count_by, slice_range, Result, Ok, Err, if◌then◌else◌}
use Rattle.classic_lex.specs.declared.fault.LexFault.{LexFault}
use Rattle.classic_lex.specs.declared.fault.LexFaultKind.TheVariants.{Memory}
use Rattle.classic_lex.specs.declared.token.Token.{Token}
use Rattle.classic_lex.specs.declared.token.TokenKind.{TokenKind}
use Rattle.classic_lex.specs.declared.front.Start.{Start}
use Rattle.classic_lex.specs.declared.front.Start.TheVariants.{Blank, Piece, Bad}
use Rattle.classic_lex.specs.declared.versions.Version.{Version}
use Rattle.classic_lex.specs.Header.{version_of, without_mark}
use Rattle.classic_lex.specs.Front.{front}

-- a token without its place: its kind, its bytes (a string with its quotes) and the line of its
-- first byte
pub record Tok : Type 0 where
  pub kind : TokenKind
  pub text : List ℕ
  pub line : ℕ

abbrev pub Toks : Type 0
Toks = Result (List Tok) LexFault

-- the tokens ts, followed by more tokens
abbrev pub with_front : List Tok → Toks → Toks
with_front ts (Ok more) = Ok (ts ++ more)
with_front ts (Err e) = Err e

-- lines are counted by LF (our choice)
abbrev pub next_line : ℕ → ℕ → ℕ
next_line line b = if b == 10 then line + 1 else line

-- the tokens of a text on this line, from what it begins with; go_on gives the tokens after the
-- first byte, from the number of bytes of this piece that are still to skip
abbrev pub begin_with : Start → ℕ → List ℕ → (ℕ → Toks) → Toks
begin_with (Blank n) line text go_on = go_on (n - 1)
begin_with (Piece k n) line text go_on =
    with_front (record { kind = k; text = take n text; line = line } ∷ []) (go_on (n - 1))
begin_with (Bad f) line text go_on = Err (record { kind = f; line = line })

-- The tokens of a text on this line. The first `inside` bytes belong to a piece that began before.
unfoldable pub tokens_at : ℕ → ℕ → List ℕ → Toks
tokens_at inside line [] = Ok []
tokens_at (suc inside) line (b ∷ bs) = tokens_at inside (next_line line b) bs
tokens_at zero line (b ∷ bs) =
    begin_with (front (b ∷ bs)) line (b ∷ bs) (λ inside. tokens_at inside (next_line line b) bs)

-- after a good head, the tokens of the text without its byte order mark; the header line is a
-- comment
abbrev pub behind_head : Result Version LexFault → List ℕ → Toks
behind_head (Err fault) text = Err fault
behind_head (Ok version) text = tokens_at 0 1 (without_mark text)

-- the tokens of a text, or its first fault
unfoldable pub lexed : List ℕ → Toks
lexed text = behind_head (version_of text) text

-- the line after these bytes
abbrev pub line_after : ℕ → List ℕ → ℕ
line_after line bytes = line + count_by (λ b. b == 10) bytes

-- the line on which a text ends
abbrev pub last_line : List ℕ → ℕ
last_line text = line_after 1 text

-- ---- what the lexer ensures

-- the fault if memory ran out
abbrev pub memory : LexFault
memory = record { kind = Memory; line = 0 }

-- a token of the text without its place
abbrev pub seen : List ℕ → Token → Tok
seen text token =
    record { kind = token.kind; text = slice_range text token.start token.end; line = token.line }
