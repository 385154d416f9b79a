-- Texts that are cut so that their tokens spell what they are written for.
use Rattle.std.proofs.Common.{◌≡◌, ℕ, zero, suc, ◌<◌, List, [], ◌∷◌, ◌++◌, refl, sym, ap, ◌∙◌, subst, append_assoc, append-nil, get_or, inl, arith}
use Rattle.std.specs.Prelude.{IsTrue}
use Rattle.std.specs.Str.{IsUtf8}
use Rattle.std.proofs.lemmas.Str.{IsUtf8-append, IsUtf8-from_ascii}
use Rattle.classic_lex.specs.declared.token.TokenKind.{TokenKind}
use Rattle.classic_bytes.specs.Bytes.{is_space}
use Rattle.classic_lex.specs.Lexed.{Tok, line_after}
use Rattle.classic_lex.specs.Tokens.{Piece, blank, token, bytes_of, text_of, IsPiece, IsToken, tokens_among}

pub one_byte : (c : ℕ) → c < 128 → IsUtf8 (c ∷ [])
one_byte c h = IsUtf8-from_ascii (c ∷ []) (λ i. below i)
  where
    below : (i : ℕ) → get_or (c ∷ []) i 0 < 128
    below zero = h
    below (suc i) = omega arith

-- ---- pieces before a rest

-- each is a piece before those behind it and the rest
abbrev pub AreBefore : List Piece → List ℕ → Type 0
AreBefore [] rest = Unit {0}
AreBefore (piece ∷ pieces) rest = IsPiece piece (text_of pieces ++ rest) × AreBefore pieces rest

line_behind : ℕ → List Piece → ℕ
line_behind line [] = line
line_behind line (piece ∷ pieces) = line_behind (line_after line (bytes_of piece)) pieces

text_of-append : (ps qs : List Piece) → text_of (ps ++ qs) ≡ text_of ps ++ text_of qs
text_of-append [] qs = refl
text_of-append (p ∷ ps) qs = ap (λ (t : List ℕ). bytes_of p ++ t) (text_of-append ps qs) ∙ sym (append_assoc (bytes_of p) (text_of ps) (text_of qs))

AreBefore-append : (ps qs : List Piece) (rest : List ℕ) → AreBefore ps (text_of qs ++ rest) → AreBefore qs rest → AreBefore (ps ++ qs) rest
AreBefore-append [] qs rest h k = k
AreBefore-append (p ∷ ps) qs rest h k =
    let e : text_of ps ++ (text_of qs ++ rest) ≡ text_of (ps ++ qs) ++ rest =
    sym (append_assoc (text_of ps) (text_of qs) rest) ∙ ap (λ (t : List ℕ). t ++ rest) (sym (text_of-append ps qs)) in
    (subst (IsPiece p) e h.0, AreBefore-append ps qs rest h.1 k)

tokens_among-append : (line : ℕ) (ps qs : List Piece) → tokens_among line (ps ++ qs) ≡ tokens_among line ps ++ tokens_among (line_behind line ps) qs
unfolding line_behind
tokens_among-append line [] qs = refl
tokens_among-append line (blank bytes ∷ ps) qs = tokens_among-append (line_after line bytes) ps qs
tokens_among-append line (token k bytes ∷ ps) qs = ap (λ (ts : List Tok). record { kind = k; text = bytes; line = line } ∷ ts)
    (tokens_among-append (line_after line bytes) ps qs)

-- ---- what is found in a text

-- The text, before the rest, is cut into pieces, and before more tokens of that kind theirs are so.
pub record Found (text rest : List ℕ) (More : List Tok → Type 0) (R : List Tok → List Tok → Type 0) : Type 0 where
  pub pieces : List Piece
  pub spelled : text_of pieces ≡ text
  pub cut : AreBefore pieces rest
  pub utf8 : IsUtf8 text
  pub fits : (line : ℕ) (ms : List Tok) → More ms → R (tokens_among line pieces ++ ms) ms

abbrev pub Always : List Tok → Type 0
Always ms = Unit {0}

abbrev pub Then : (List Tok → List Tok → Type 0) → (List Tok → List Tok → Type 0) → List Tok → List Tok → Type 0
Then R S ts rest = (a : List Tok) × R ts a × S a rest

module _ {text rest : List ℕ} {More : List Tok → Type 0} {R : List Tok → List Tok → Type 0} where
  pub with : (S : List Tok → List Tok → Type 0) → ((ts ms : List Tok) → R ts ms → S ts ms) → Found text rest More R → Found text rest More S
  with S f p = record {
    pieces = p.pieces;
    spelled = p.spelled;
    cut = p.cut;
    utf8 = p.utf8;
    fits = λ line ms q. f (tokens_among line p.pieces ++ ms) ms (p.fits line ms q);
  }

  -- white space before it
  pub white : (b : ℕ) → IsTrue (is_space b) → b < 128 → Found text rest More R → Found (b ∷ text) rest More R
  white b h small p = record {
    pieces = blank (b ∷ []) ∷ p.pieces;
    spelled = ap (λ (t : List ℕ). b ∷ t) p.spelled;
    cut = (inl (h, refl), p.cut);
    utf8 = IsUtf8-append (b ∷ []) text (one_byte b small) p.utf8;
    fits = λ line ms q. p.fits (line_after line (b ∷ [])) ms q;
  }

  pub retext : (other : List ℕ) → other ≡ text → Found text rest More R → Found other rest More R
  retext other e p = record { pieces = p.pieces; spelled = p.spelled ∙ sym e; cut = p.cut; utf8 = subst IsUtf8 (sym e) p.utf8; fits = p.fits }

  -- before fewer tokens
  pub before : (Less : List Tok → Type 0) → ((ms : List Tok) → Less ms → More ms) → Found text rest More R → Found text rest Less R
  before Less f p = record { pieces = p.pieces; spelled = p.spelled; cut = p.cut; utf8 = p.utf8; fits = λ line ms q. p.fits line ms (f ms q) }

pub always : {text rest : List ℕ} {More : List Tok → Type 0} {R : List Tok → List Tok → Type 0} → Found text rest Always R → Found text rest More R
always p = record { pieces = p.pieces; spelled = p.spelled; cut = p.cut; utf8 = p.utf8; fits = λ line ms q. p.fits line ms tt }

-- one text behind another
pub join : {s u rest : List ℕ} {Next More : List Tok → Type 0} {R S : List Tok → List Tok → Type 0}
    → Found s (u ++ rest) Next R → Found u rest More S → ((ts ms : List Tok) → S ts ms → Next ts) → Found (s ++ u) rest More (Then R S)
join {s} {u} {rest} {Next} {More} {R} {S} p q n = record {
  pieces = p.pieces ++ q.pieces;
  spelled = text_of-append p.pieces q.pieces ∙ (ap (λ (t : List ℕ). t ++ text_of q.pieces) p.spelled ∙ ap (λ (t : List ℕ). s ++ t) q.spelled);
  cut = AreBefore-append p.pieces q.pieces rest (subst (λ (t : List ℕ). AreBefore p.pieces (t ++ rest)) (sym q.spelled) p.cut) q.cut;
  utf8 = IsUtf8-append s u p.utf8 q.utf8;
  fits = λ line ms m.
      let l : ℕ = line_behind line p.pieces in
      let behind : List Tok = tokens_among (line_behind line p.pieces) q.pieces ++ ms in
      let f = q.fits (line_behind line p.pieces) ms m in
      let e : tokens_among line (p.pieces ++ q.pieces) ++ ms ≡ tokens_among line p.pieces ++
      (tokens_among (line_behind line p.pieces) q.pieces ++ ms) =
      ap (λ (ts : List Tok). ts ++ ms) (tokens_among-append line p.pieces q.pieces)
      ∙ append_assoc (tokens_among line p.pieces) (tokens_among (line_behind line p.pieces) q.pieces) ms in
      subst (λ (ts : List Tok). Then R S ts ms) (sym e) (
        tokens_among (line_behind line p.pieces) q.pieces ++ ms,
        p.fits line (tokens_among (line_behind line p.pieces) q.pieces ++ ms) (n _ ms f),
        f,
      );
}

-- a token
pub one : {rest : List ℕ} {R : List Tok → List Tok → Type 0} (k : TokenKind) (bytes : List ℕ) → IsToken k bytes rest → IsUtf8 bytes
    → ((line : ℕ) (ms : List Tok) → R (record { kind = k; text = bytes; line = line } ∷ ms) ms) → Found bytes rest Always R
one k bytes h u f = record { pieces = token k bytes ∷ []; spelled = append-nil bytes; cut = (h, tt); utf8 = u; fits = λ line ms q. f line ms }
