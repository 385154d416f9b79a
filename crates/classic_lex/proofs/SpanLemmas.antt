-- The gaps between tokens, as a loop over what stands at the front leaves them.
use Rattle.std.proofs.Common.{◌≡◌, ◌⊎◌, ℕ, ◌+◌, ◌-◌, ◌<◌, ◌≤◌, List, [], ◌∷◌, ◌++◌, length, take, drop, Bool, true, false, not, refl, sym, subst, ap, ◌∙◌, arith, inl, inr, ◌==◌}
use Rattle.std.specs.Prelude.{IsTrue, slice_range}
use Rattle.std.specs.List.{list_all}
use Rattle.std.proofs.Math.Seq.{take-add}
use Rattle.std.proofs.lemmas.Bool.{and_parts, or_cases, not-false, eqb-true, ne_eqb}
use Rattle.std.proofs.lemmas.List.{drop-drop, append_assoc, append-nil, take-append-drop}
use Rattle.classic_lex.specs.declared.token.TokenKind.{TokenKind}
use Rattle.classic_lex.specs.declared.token.Token.{Token}
use Rattle.classic_lex.specs.declared.front.Start.{Start}
use Rattle.classic_lex.specs.declared.front.Start.TheVariants as start
use Rattle.classic_bytes.specs.Bytes.{is_space, is_line_end}
use Rattle.classic_lex.specs.Front.{front, front_at}
use Rattle.classic_lex.specs.Spans.{is_gap, AreSpans}
use Rattle.classic_lex.specs.Tokens.{NotAhead, IsPiece, blank}
use Rattle.classic_lex.proofs.Fronts.{Tells, front_told}

-- the end of the last token, or where they begin
abbrev pub last_end : ℕ → List Token → ℕ
last_end from [] = from
last_end from (t ∷ ts) = last_end t.end ts

-- ---- what may stand behind a gap, and behind a comment that may go on

-- these bytes are a gap before the rest, whatever gap goes on behind them; a comment under way ends where the rest begins
pub record IsOpenGap (bytes rest : List ℕ) : Type 0 where
  pub comment : Bool
  pub goes_on : (more : List ℕ) → is_gap false (bytes ++ more) ≡ is_gap comment more
  pub ends : (comment ≡ false) ⊎ NotAhead (λ c. not (is_line_end c)) rest

no_gap_yet : (rest : List ℕ) → IsOpenGap [] rest
no_gap_yet rest = record { comment = false; goes_on = λ more. refl; ends = inl refl }

pub IsOpenGap-here : (text rest : List ℕ) (at : ℕ) → IsOpenGap (slice_range text at at) rest
IsOpenGap-here text rest at =
    let none : at - at ≡ 0 = omega arith in
    rw none (no_gap_yet rest)

space_or_comment : (b : ℕ) → is_space b ≡ true → (b == 35) ≡ false
unfolding is_space
space_or_comment b h = ne_eqb b 35 (λ e. (let k : false ≡ true = rw e at h in cc))

over_space : (comment : Bool) (b : ℕ) (rest more : List ℕ) → is_space b ≡ true → (comment ≡ false) ⊎ NotAhead (λ c. not (is_line_end c)) (b ∷ rest) → is_gap comment (b ∷ more) ≡ is_gap false more
unfolding is_gap
over_space false b rest more h ends = rw (space_or_comment b h, h) refl
over_space true b rest more h (inl e) = cc
over_space true b rest more h (inr e) = rw e refl

over_run : (run more : List ℕ) → list_all (λ c. not (is_line_end c)) run ≡ true → is_gap true (run ++ more) ≡ is_gap true more
unfolding is_gap
over_run [] more h = refl
over_run (b ∷ bs) more h =
    let p = and_parts (not (is_line_end b)) (list_all (λ c. not (is_line_end c)) bs) h in
    ap (λ (s : Bool). is_gap s (bs ++ more)) p.0 ∙ over_run bs more p.1

over_comment : (comment : Bool) (b : ℕ) (run rest more : List ℕ) → b ≡ 35 → list_all (λ c. not (is_line_end c)) run ≡ true → (comment ≡ false) ⊎ NotAhead (λ c. not (is_line_end c)) (b ∷ rest) → is_gap comment ((b ∷ run) ++ more) ≡ is_gap true more
unfolding is_gap is_line_end
over_comment false b run rest more e h ends = rw e (over_run run more h)
over_comment true b run rest more e h (inl k) = cc
over_comment true b run rest more e h (inr k) = (let far : true ≡ false = rw e at k in cc)

over_piece : (bytes piece rest : List ℕ) → IsOpenGap bytes (piece ++ rest) → IsPiece (blank piece) rest → IsOpenGap (bytes ++ piece) rest
over_piece bytes [] rest gap (inl h) = absurd h
over_piece bytes [] rest gap (inr h) = absurd h
over_piece bytes (b ∷ bs) rest gap (inl h) = record {
  comment = false;
  goes_on = λ more. (let one : b ∷ bs ≡ b ∷ [] = ap (λ (t : List ℕ). b ∷ t) h.1 in
      ap (λ (t : List ℕ). is_gap false ((bytes ++ t) ++ more)) one
      ∙ ap (is_gap false) (append_assoc bytes (b ∷ []) more)
      ∙ gap.goes_on (b ∷ more)
      ∙ over_space gap.comment b (bs ++ rest) more h.0 gap.ends);
  ends = inl refl;
}
over_piece bytes (b ∷ bs) rest gap (inr h) = record {
  comment = true;
  goes_on = λ more.
      ap (is_gap false) (append_assoc bytes (b ∷ bs) more)
      ∙ gap.goes_on ((b ∷ bs) ++ more)
      ∙ over_comment gap.comment b bs (bs ++ rest) more h.0 h.1.0 gap.ends;
  ends = inr h.1.1;
}

-- ---- the loop

longer : (text : List ℕ) (from at n : ℕ) → from ≤ at → slice_range text from (at + n) ≡ slice_range text from at ++ take n (drop at text)
longer text from at n h =
    let e : at + n - from ≡ (at - from) + n = omega arith in
    let back : from + (at - from) ≡ at = omega arith in
    ap (λ k. take k (drop from text)) e
    ∙ take-add (at - from) n (drop from text)
    ∙ ap (λ (t : List ℕ). slice_range text from at ++ take n t) (drop-drop (at - from) from text ∙ ap (λ k. drop k text) back)

told_blank : (rest : List ℕ) (n : ℕ) → start.Blank n ≡ front rest → 0 < length rest → IsPiece (blank (take n rest)) (drop n rest)
told_blank [] n e some = absurd (omega arith)
told_blank (b ∷ bs) n e some = (let t : Tells (start.Blank n) (b ∷ bs) = subst (λ (s : Start). Tells s (b ∷ bs)) (sym e) (front_told b bs) in t.2)

pub IsOpenGap-blank : (text rest : List ℕ) (from at n : ℕ) → from ≤ at → rest ≡ drop at text → start.Blank n ≡ front rest → 0 < length rest
    → IsOpenGap (slice_range text from at) rest → IsOpenGap (slice_range text from (at + n)) (drop n rest)
IsOpenGap-blank text rest from at n room here e some gap =
    let whole : IsOpenGap (slice_range text from at) (take n rest ++ drop n rest) = rw (take-append-drop n rest) gap in
    let more : slice_range text from (at + n) ≡ slice_range text from at ++ take n rest = longer text from at n room ∙ ap (λ (t : List ℕ). slice_range text from at ++ take n t) (sym here) in
    rw more (over_piece (slice_range text from at) (take n rest) (drop n rest) whole (told_blank rest n e some))

line_end_blank : (b : ℕ) (bs : List ℕ) → is_line_end b ≡ true → front (b ∷ bs) ≡ start.Blank 1
unfolding front_at is_space is_line_end
line_end_blank b bs h = elim (or_cases (b == 13) (b == 10) h) [
  | inl e ↦ rw (eqb-true b 13 e) refl
  | inr e ↦ rw (eqb-true b 10 e) refl
]

no_comment : is_gap false [] ≡ true
unfolding is_gap
no_comment = refl

-- the gap before a token is over
pub is_gap-token : (bytes rest : List ℕ) (k : TokenKind) (n : ℕ) → start.Piece k n ≡ front rest → 0 < length rest → IsOpenGap bytes rest → IsTrue (is_gap false bytes)
is_gap-token bytes [] k n e some gap = absurd (omega arith)
is_gap-token bytes (b ∷ bs) k n e some gap = over gap.comment gap.goes_on gap.ends
  where
    over : (comment : Bool) → ((more : List ℕ) → is_gap false (bytes ++ more) ≡ is_gap comment more) → (comment ≡ false) ⊎ NotAhead (λ c. not (is_line_end c)) (b ∷ bs) → IsTrue (is_gap false bytes)
    over false goes_on ends = ap (is_gap false) (sym (append-nil bytes)) ∙ goes_on [] ∙ no_comment
    over true goes_on (inl h) = cc
    over true goes_on (inr h) =
        let other : ◌≡◌ {A = Start} (start.Piece k n) (start.Blank 1) = e ∙ line_end_blank b bs (not-false (is_line_end b) h) in
        cc

-- ---- one more token

pub AreSpans-push : (text : List ℕ) (ts : List Token) (from : ℕ) (t : Token) → AreSpans text from ts → last_end from ts ≤ t.start → t.start < t.end → t.end ≤ length text
    → IsTrue (is_gap false (slice_range text (last_end from ts) t.start)) → AreSpans text from (ts ++ t ∷ [])
AreSpans-push text [] from t h behind some room gap = (behind, some, gap, room)
AreSpans-push text (u ∷ us) from t h behind some room gap = (h.0, h.1, h.2, AreSpans-push text us u.end t h.3 behind some room gap)

pub last_end-push : (ts : List Token) (from : ℕ) (t : Token) → last_end from (ts ++ t ∷ []) ≡ t.end
last_end-push [] from t = refl
last_end-push (u ∷ us) from t = last_end-push us u.end t
