-- A string token and what it holds: the relation and the function.
use Rattle.std.proofs.Common.{◌≡◌, ℕ, List, [], ◌∷◌, ◌++◌, length, take, true, false, Option, Some, None, refl, ap, ◌∙◌, subst, inl, inr, ◌==◌, append-nil}
use Rattle.std.proofs.Math.Seq.{take-length}
use Rattle.std.proofs.lemmas.Bool.{cases_Bool, and_parts, and_from, eqb-true, eqb-false, eq-eqb, ne_eqb}
use Rattle.classic_bytes.specs.Strings.{closing}
use Rattle.classic_lex.specs.Tokens.{IsString, IsClosed, quote, plain as plain_byte, pair}
use Rattle.classic_lex.proofs.StringLemmas.{IsClosed-take, closing-IsClosed}
use Rattle.classic_text.specs.Strings.{Holds, HoldsBehind, closed, plain, escaped, lone}
use Rattle.classic_text.specs.Unquoted.{escape, held, unquoted, ends_at, is_quoted}

-- ---- both quotes

ends_closed : (bs : List ℕ) (o : Option ℕ) → closing false bs ≡ o → ends_at o (length bs) ≡ true → IsClosed bs
ends_closed bs None e h = cc
ends_closed bs (Some m) e h =
    let is : m ≡ length bs = eqb-true m (length bs) h in
    subst IsClosed (ap (λ n. take n bs) is ∙ take-length bs) (IsClosed-take bs m e)

quoted-IsString : (text : List ℕ) → is_quoted text ≡ true → IsString text
unfolding is_quoted
quoted-IsString [] h = cc
quoted-IsString (b ∷ bs) h =
    let p = and_parts (b == 34) (ends_at (closing false bs) (length bs)) h in
    (eqb-true b 34 p.0, ends_closed bs (closing false bs) refl p.1)

pub IsString-quoted : (text : List ℕ) → IsString text → is_quoted text ≡ true
unfolding is_quoted
IsString-quoted [] h = absurd h
IsString-quoted (b ∷ bs) h =
    let c : closing false bs ≡ Some (length bs) = subst (λ (x : List ℕ). closing false x ≡ Some (length bs)) (append-nil bs) (closing-IsClosed h.1 []) in
    and_from (b == 34) (ends_at (closing false bs) (length bs)) (eq-eqb b 34 h.0) (ap (λ o. ends_at o (length bs)) c ∙ eq-eqb (length bs) (length bs) refl)

-- ---- what stands between them

after_backslash : (c : ℕ) (bs : List ℕ) → HoldsBehind bs (held false bs) → HoldsBehind (92 ∷ c ∷ bs) (escape c ++ held false bs)
unfolding escape
after_backslash c bs h = elim (cases_Bool (c == 34)) [
  | inl q ↦ rw q (escaped (inl (eqb-true c 34 q)) h)
  | inr q ↦ elim (cases_Bool (c == 92)) [
    | inl s ↦ rw (q, s) (escaped (inr (eqb-true c 92 s)) h)
    | inr s ↦ rw (q, s) (lone (eqb-false c 34 q) (eqb-false c 92 s) h)
  ]
]

closed_holds : {bs : List ℕ} → IsClosed bs → HoldsBehind bs (held false bs)
unfolding held
closed_holds quote = closed
closed_holds (plain_byte {b} {bs} other further h) = rw (ne_eqb b 34 other, ne_eqb b 92 further) (plain other further (closed_holds h))
closed_holds (pair {c} {bs} h) = after_backslash c bs (closed_holds h)

holds_closed : {bs s : List ℕ} → HoldsBehind bs s → IsClosed bs
holds_closed closed = quote
holds_closed (plain other further h) = plain_byte other further (holds_closed h)
holds_closed (escaped e h) = pair (holds_closed h)
holds_closed (lone other further h) = pair (holds_closed h)

holds_held : {bs s : List ℕ} → HoldsBehind bs s → held false bs ≡ s
unfolding held escape
holds_held closed = refl
holds_held (plain {b} {bs} other further h) = rw (ne_eqb b 34 other, ne_eqb b 92 further) (ap (λ more. b ∷ more) (holds_held h))
holds_held (escaped {c} {bs} (inl e) h) = rw e (ap (λ more. 34 ∷ more) (holds_held h))
holds_held (escaped {c} {bs} (inr e) h) = rw e (ap (λ more. 92 ∷ more) (holds_held h))
holds_held (lone {c} {bs} other further h) = rw (ne_eqb c 34 other, ne_eqb c 92 further) (ap (λ more. 92 ∷ c ∷ more) (holds_held h))

-- ---- string tokens

pub unquoted-Holds : (text s : List ℕ) → is_quoted text ≡ true → unquoted text ≡ s → Holds text s
unfolding unquoted
unquoted-Holds text s q e = by text (quoted-IsString text q) e
  where
    by : (text : List ℕ) → IsString text → unquoted text ≡ s → Holds text s
    by [] h e = absurd h
    by (b ∷ bs) h e =
        let is : held false bs ≡ s = rw h.0 at e in
        (h.0, subst (HoldsBehind bs) is (closed_holds h.1))

pub Holds-quoted : (text s : List ℕ) → Holds text s → is_quoted text ≡ true
Holds-quoted [] s h = absurd h
Holds-quoted (b ∷ bs) s h = IsString-quoted (b ∷ bs) (h.0, holds_closed h.1)

-- a string token holds one list of bytes
pub Holds-unquoted : (text s : List ℕ) → Holds text s → unquoted text ≡ s
unfolding unquoted
Holds-unquoted [] s h = absurd h
Holds-unquoted (b ∷ bs) s h = rw h.0 (holds_held h.1)
