-- The tokens of a text are no longer, and no more, than its bytes.
use Rattle.std.proofs.Common.{ℕ, ◌≤◌, ◌<◌, List, [], ◌∷◌, length, sym, subst, arith, length-append}
use Rattle.std.specs.Prelude.{All}
use Rattle.std.specs.List.{AllByRecursion}
use Rattle.std.specs.Str.{IsUtf8}
use Rattle.std.proofs.lemmas.List.Elements.{All-head, All-tail}
use Rattle.classic_lex.specs.declared.token.TokenKind.{TokenKind}
use Rattle.classic_lex.specs.declared.token.TokenKind.TheVariants as kind
use Rattle.classic_lex.specs.Lexed.{Tok, line_after}
use Rattle.classic_lex.specs.Tokens.{ArePieces, HasTokens, IsToken, Piece, blank, text_of, token, tokens_among}
use Rattle.classic_lex.proofs.Utf8Lemmas.{IsUtf8-HasTokens}
use Rattle.laws_documents.specs.Lengths.{IsShortText}

some_bytes : (k : TokenKind) (bytes rest : List ℕ) → IsToken k bytes rest → 0 < length bytes
some_bytes k (b ∷ bs) rest h = omega arith
some_bytes kind.Identifier [] rest h = absurd h
some_bytes kind.Numeral [] rest h = absurd h
some_bytes kind.Text [] rest h = absurd h
some_bytes kind.OpenBrace [] rest h = cc
some_bytes kind.CloseBrace [] rest h = cc
some_bytes kind.OpenBracket [] rest h = cc
some_bytes kind.CloseBracket [] rest h = cc
some_bytes kind.Point [] rest h = let e = h.0 in cc

few_among : (line : ℕ) (pieces : List Piece) → ArePieces pieces → length (tokens_among line pieces) ≤ length (text_of pieces)
few_among line [] h = omega arith
few_among line (blank bytes ∷ pieces) h = omega (arith, few_among (line_after line bytes) pieces h.1, length-append bytes (text_of pieces))
few_among line (token k bytes ∷ pieces) h =
    omega (arith, few_among (line_after line bytes) pieces h.1, length-append bytes (text_of pieces), some_bytes k bytes (text_of pieces) h.0)

abbrev AreUtf8 : List Tok → Type 0
AreUtf8 tokens = All (λ (x : Tok). IsUtf8 x.text) tokens

short_among : (most line : ℕ) (pieces : List Piece) → length (text_of pieces) ≤ most → AreUtf8 (tokens_among line pieces) → AllByRecursion (λ x. IsShortText most x.text) (tokens_among line pieces)
short_among most line [] h u = tt
short_among most line (blank bytes ∷ pieces) h u = short_among most (line_after line bytes) pieces (omega (arith, h, length-append bytes (text_of pieces))) u
short_among most line (token k bytes ∷ pieces) h u =
    let here : Tok = record { kind = k; text = bytes; line = line } in
    let more : List Tok = tokens_among (line_after line bytes) pieces in (
      (All-head (λ (x : Tok). IsUtf8 x.text) here more u, omega (arith, h, length-append bytes (text_of pieces))),
      short_among most (line_after line bytes) pieces (omega (arith, h, length-append bytes (text_of pieces))) (All-tail (λ (x : Tok). IsUtf8 x.text) here more u),
    )

-- each is UTF-8 and no longer than so many bytes, and no more are there
pub record AreShort (most : ℕ) (tokens : List Tok) : Type 0 where
  pub texts : AllByRecursion (λ x. IsShortText most x.text) tokens
  pub few : length tokens ≤ most

pub tokens_short : (most : ℕ) (text : List ℕ) (tokens : List Tok) → length text ≤ most → HasTokens text tokens → AreShort most tokens
tokens_short most text tokens few h =
    let body : length h.body ≤ length text = subst (λ (t : List ℕ). length h.body ≤ length t) h.headed.spelled (omega (arith, length-append h.headed.mark h.body)) in
    let within : length (text_of h.pieces) ≤ length text = subst (λ (t : List ℕ). length t ≤ length text) (sym h.spelled) body in
    let utf8 : AreUtf8 (tokens_among 1 h.pieces) = subst AreUtf8 (sym h.are) (IsUtf8-HasTokens text tokens h) in
    subst (AreShort most) h.are (record {
      texts = short_among most 1 h.pieces (omega (arith, within, few)) utf8;
      few = omega (arith, few_among 1 h.pieces h.cut, within, few);
    })
