-- Cutting a text, as a loop over what stands at the front does.
use Rattle.std.proofs.Common.{◌≡◌, ℕ, zero, suc, ◌+◌, ◌-◌, ◌<◌, ◌≤◌, List, [], ◌∷◌, ◌++◌, length, take, drop, map, Bool, true, false, cond, Ok, Err, refl, sym, ap, ◌∙◌, arith, ◌==◌, append_assoc}
use Rattle.std.specs.Prelude.{count_by}
use Rattle.std.proofs.lemmas.List.{append-nil, map_push}
use Rattle.std.proofs.lemmas.List.Sums.{sum_by-cons}
use Rattle.std.specs.Str.{IsUtf8, is_utf8}
use Rattle.std.proofs.lemmas.Str.{IsUtf8-from_is_utf8}
use Rattle.classic_lex.specs.declared.fault.LexFaultKind.{LexFaultKind}
use Rattle.classic_lex.specs.declared.token.TokenKind.{TokenKind}
use Rattle.classic_lex.specs.declared.token.Token.{Token}
use Rattle.classic_lex.specs.declared.front.Start.{Start}
use Rattle.classic_lex.specs.declared.front.Start.TheVariants.{Blank, Piece, Bad}
use Rattle.classic_lex.specs.Front.{front, IsWithin}
use Rattle.classic_lex.specs.Lexed.{Tok, Toks, with_front, next_line, line_after, tokens_at, seen}

-- ---- lines

line_over : (line b : ℕ) (bs : List ℕ) → line_after (next_line line b) bs ≡ line_after line (b ∷ bs)
line_over line b bs = over (b == 10) (count_by (λ b. b == 10) bs) ∙ ap (λ n. line + n) (sym (sum_by-cons (λ x. cond (x == 10) 1 0) b bs))
  where
    over : (t : Bool) (n : ℕ) → cond t (line + 1) line + n ≡ line + (cond t 1 0 + n)
    over true n = omega arith
    over false n = omega arith

-- ---- what stands at the front

skip : (n line : ℕ) (text : List ℕ) → n ≤ length text → tokens_at n line text ≡ tokens_at 0 (line_after line (take n text)) (drop n text)
unfolding tokens_at
skip zero line text h =
    let l : line_after line (take 0 text) ≡ line = omega arith in
    rw l refl
skip (suc n) line [] h = absurd (omega arith)
skip (suc n) line (b ∷ bs) h =
    skip n (next_line line b) bs (omega arith)
    ∙ ap (λ k. tokens_at 0 k (drop n bs)) (line_over line b (take n bs))

-- behind what stands at the front
abbrev pub behind : ℕ → ℕ → List ℕ → Toks
behind n line text = tokens_at 0 (line_after line (take n text)) (drop n text)

-- what the text has, by what stands at its front
abbrev pub by_start : Start → ℕ → List ℕ → Toks
by_start (Blank n) line text = behind n line text
by_start (Piece k n) line text = with_front (record { kind = k; text = take n text; line = line } ∷ []) (behind n line text)
by_start (Bad f) line text = Err (record { kind = f; line = line })

goes_over : (n line b : ℕ) (bs : List ℕ) → 0 < n → n ≤ length (b ∷ bs) → tokens_at (n - 1) (next_line line b) bs ≡ behind n line (b ∷ bs)
goes_over zero line b bs some h = absurd (omega arith)
goes_over (suc n) line b bs some h =
    let m : suc n - 1 ≡ n = omega arith in
    ap (λ k. tokens_at k (next_line line b) bs) m
    ∙ skip n (next_line line b) bs (omega arith)
    ∙ ap (λ k. tokens_at 0 k (drop n bs)) (line_over line b (take n bs))

pub at_front : (line : ℕ) (text : List ℕ) (s : Start) → s ≡ front text → 0 < length text → IsWithin (length text) s → tokens_at 0 line text ≡ by_start s line text
unfolding tokens_at
at_front line [] s e some w = absurd (omega arith)
at_front line (b ∷ bs) (Blank n) e some w = rw (← e) (goes_over n line b bs w.0 w.1)
at_front line (b ∷ bs) (Piece k n) e some w = rw (← e) (ap (with_front (record { kind = k; text = take n (b ∷ bs); line = line } ∷ [])) (goes_over n line b bs w.0 w.1))
at_front line (b ∷ bs) (Bad f) e some w = rw (← e) refl

-- ---- the loop

join : (ts : List Tok) (t : Tok) (read : Toks) → with_front ts (with_front (t ∷ []) read) ≡ with_front (ts ++ t ∷ []) read
join ts t (Ok more) = ap Ok (simp append_assoc)
join ts t (Err e) = refl

pub none_before : (read : Toks) → with_front [] read ≡ read
none_before (Ok more) = refl
none_before (Err e) = refl

-- a token of n bytes at this place is seen as what stands there
pub seen_here : (text rest : List ℕ) (at n : ℕ) (k : TokenKind) (line : ℕ) → rest ≡ drop at text
    → seen text (record { kind = k; start = at; end = at + n; line = line }) ≡ record { kind = k; text = take n rest; line = line }
seen_here text rest at n k line here =
    let m : at + n - at ≡ n = omega arith in
    rw (m, here) refl

module _ (ts : List Token) (all : List ℕ) (whole : Toks) (text : List ℕ) (at line : ℕ) (some : 0 < length text) (here : text ≡ drop at all) (told : with_front (map (seen all) ts) (tokens_at 0 line text) ≡ whole) where
  pub on_blank : (n : ℕ) → Blank n ≡ front text → IsWithin (length text) (Blank n) → with_front (map (seen all) ts) (behind n line text) ≡ whole
  on_blank n e w = sym (ap (with_front (map (seen all) ts)) (at_front line text (Blank n) e some w)) ∙ told

  pub on_piece : (k : TokenKind) (n : ℕ) → Piece k n ≡ front text → IsWithin (length text) (Piece k n)
      → with_front (map (seen all) (ts ++ record { kind = k; start = at; end = at + n; line = line } ∷ [])) (behind n line text) ≡ whole
  on_piece k n e w =
      let token : Token = record { kind = k; start = at; end = at + n; line = line } in
      let tok : Tok = record { kind = k; text = take n text; line = line } in
      ap (λ (us : List Tok). with_front us (behind n line text)) (map_push (seen all) ts token)
      ∙ ap (λ (t : Tok). with_front (map (seen all) ts ++ t ∷ []) (behind n line text)) (seen_here all text at n k line here)
      ∙ sym (join (map (seen all) ts) tok (behind n line text))
      ∙ sym (ap (with_front (map (seen all) ts)) (at_front line text (Piece k n) e some w)) ∙ told

  pub on_bad : (f : LexFaultKind) → Bad f ≡ front text → whole ≡ Err (record { kind = f; line = line })
  on_bad f e = sym told ∙ ap (with_front (map (seen all) ts)) (at_front line text (Bad f) e some tt)

pub at_end : (ts : List Tok) (whole : Toks) (text : List ℕ) (line : ℕ) → length text ≡ 0 → with_front ts (tokens_at 0 line text) ≡ whole → whole ≡ Ok ts
unfolding tokens_at
at_end ts whole [] line done told = sym told ∙ ap Ok (append-nil ts)
at_end ts whole (b ∷ bs) line done told = absurd (omega arith)

-- ---- texts

pub not_text : (bs : List ℕ) → (IsUtf8 bs → ⊥) → false ≡ is_utf8 bs
not_text bs n = elim (is_utf8 bs) as (λ b. (b ≡ true → ⊥) → false ≡ b) [ true ↦ λ k. absurd (k refl) | false ↦ λ k. refl ] (λ t. n (IsUtf8-from_is_utf8 bs t))
