-- The text of a string is a token that holds it.
use Rattle.std.proofs.Common.{◌≡◌, ℕ, suc, ◌+◌, ◌<◌, List, [], ◌∷◌, ◌++◌, length, drop, get_or, Bool, true, false, ◌==◌, refl, sym, subst, arith, append_assoc, append-nil, length-append, inl, inr}
use Rattle.std.specs.Str.{IsUtf8}
use Rattle.std.specs.List.{flat_map}
use Rattle.std.proofs.Math.Seq.{take-append_seam}
use Rattle.std.proofs.lemmas.Bool.{eqb-true, eqb-false}
use Rattle.std.proofs.lemmas.Str.{IsUtf8-append, IsUtf8-take, IsUtf8-drop, IsCharBoundary-before_ascii, IsCharBoundary-after_ascii}
use Rattle.x3d_values.specs.ValueText.{escaped, string_text}
use Rattle.classic_lex.specs.declared.token.TokenKind.TheVariants.{Text}
use Rattle.classic_lex.specs.Tokens.{IsClosed, quote, plain, pair, IsToken}
use Rattle.classic_text.specs.Strings.{Holds, HoldsBehind}
use Rattle.classic_text.specs.Strings as string
use Rattle.classic_text.specs.Spells.{IsString}
use Rattle.classic_round_trip.proofs.Pieces.{one_byte, Found, Always, one}

-- ---- it is closed where it ends

closed_more : (c : ℕ) (t : List ℕ) (q s : Bool) → (c == 34) ≡ q → (c == 92) ≡ s → IsClosed (t ++ 34 ∷ []) → IsClosed ((escaped c ++ t) ++ 34 ∷ [])
closed_more c t true s e f h = rw e (pair h)
closed_more c t false true e f h = rw (e, f) (pair h)
closed_more c t false false e f h = rw (e, f) (plain (eqb-false c 34 e) (eqb-false c 92 f) h)

closed : (text : List ℕ) → IsClosed (flat_map escaped text ++ 34 ∷ [])
closed [] = quote
closed (c ∷ text) = closed_more c (flat_map escaped text) (c == 34) (c == 92) refl refl (closed text)

string_token : (text rest : List ℕ) → IsToken Text (string_text text) rest
unfolding string_text
string_token text rest = (refl, closed text)

-- ---- what it holds

holds_more : (c : ℕ) (t text : List ℕ) (q s : Bool) → (c == 34) ≡ q → (c == 92) ≡ s → HoldsBehind (t ++ 34 ∷ []) text
    → HoldsBehind ((escaped c ++ t) ++ 34 ∷ []) (c ∷ text)
holds_more c t text true s e f h = rw e (string.escaped (inl (eqb-true c 34 e)) h)
holds_more c t text false true e f h = rw (e, f) (string.escaped (inr (eqb-true c 92 f)) h)
holds_more c t text false false e f h = rw (e, f) (string.plain (eqb-false c 34 e) (eqb-false c 92 f) h)

holds : (text : List ℕ) → HoldsBehind (flat_map escaped text ++ 34 ∷ []) text
holds [] = string.closed
holds (c ∷ text) = holds_more c (flat_map escaped text) text (c == 34) (c == 92) refl refl (holds text)

holds-string_text : (text : List ℕ) → Holds (string_text text) text
unfolding string_text
holds-string_text text = (refl, holds text)

-- ---- it stays UTF-8

at_seam : (xs : List ℕ) (a : ℕ) (ys : List ℕ) → get_or (xs ++ a ∷ ys) (length xs) 0 ≡ a
at_seam [] a ys = refl
at_seam (x ∷ xs) a ys = at_seam xs a ys

-- the parts round an ASCII byte
split : (xs : List ℕ) (a : ℕ) (ys : List ℕ) → a < 128 → IsUtf8 (xs ++ a ∷ ys) → IsUtf8 xs × IsUtf8 ys
split xs a ys h u =
    let within : length xs < length (xs ++ a ∷ ys) = omega (arith, length-append xs (a ∷ ys)) in
    let small : get_or (xs ++ a ∷ ys) (length xs) 0 < 128 = rw (at_seam xs a ys) h in
    let seam : drop (length xs + 1) (xs ++ a ∷ ys) ≡ ys = behind xs in (
      subst IsUtf8 (take-append_seam xs (a ∷ ys)) (IsUtf8-take (xs ++ a ∷ ys) (length xs) u
          (IsCharBoundary-before_ascii (xs ++ a ∷ ys) (length xs) within small)),
      subst IsUtf8 seam (IsUtf8-drop (xs ++ a ∷ ys) (length xs + 1) u (IsCharBoundary-after_ascii (xs ++ a ∷ ys) (length xs) u within small)),
    )
  where
    behind : (xs : List ℕ) → drop (length xs + 1) (xs ++ a ∷ ys) ≡ ys
    behind [] = refl
    behind (x ∷ xs) = let e : suc (length xs) + 1 ≡ suc (length xs + 1) = omega arith in rw e (behind xs)

module _ (acc : List ℕ) (c : ℕ) (bs more : List ℕ) (u : IsUtf8 (acc ++ c ∷ bs))
    (ih : (front : List ℕ) → IsUtf8 (front ++ bs) → IsUtf8 (front ++ more)) where
  special : c < 128 → IsUtf8 (acc ++ 92 ∷ c ∷ more)
  special h =
      let s = split acc c bs h u in
      let f : IsUtf8 (acc ++ 92 ∷ c ∷ []) = IsUtf8-append acc (92 ∷ c ∷ []) s.0
      (IsUtf8-append (92 ∷ []) (c ∷ []) (one_byte 92 (omega arith)) (one_byte c h)) in
      subst IsUtf8 (append_assoc acc (92 ∷ c ∷ []) more) (ih (acc ++ 92 ∷ c ∷ []) (IsUtf8-append (acc ++ 92 ∷ c ∷ []) bs f s.1))

  usual : IsUtf8 (acc ++ c ∷ more)
  usual = subst IsUtf8 (append_assoc acc (c ∷ []) more) (ih (acc ++ c ∷ []) (subst IsUtf8 (sym (append_assoc acc (c ∷ []) bs)) u))

  either : (q s : Bool) → (c == 34) ≡ q → (c == 92) ≡ s → IsUtf8 (acc ++ (escaped c ++ more))
  either true s e f = rw e (special (let k = eqb-true c 34 e in omega arith))
  either false true e f = rw (e, f) (special (let k = eqb-true c 92 f in omega arith))
  either false false e f = rw (e, f) usual

escaped_text : (acc bs : List ℕ) → IsUtf8 (acc ++ bs) → IsUtf8 (acc ++ flat_map escaped bs)
escaped_text acc [] u = u
escaped_text acc (c ∷ bs) u = either acc c bs (flat_map escaped bs) u (λ front v. escaped_text front bs v) (c == 34) (c == 92) refl refl

IsUtf8-string_text : (text : List ℕ) → IsUtf8 text → IsUtf8 (string_text text)
unfolding string_text
IsUtf8-string_text text u =
    IsUtf8-append (34 ∷ []) (flat_map escaped text ++ 34 ∷ []) (one_byte 34 (omega arith))
    (IsUtf8-append (flat_map escaped text) (34 ∷ []) (escaped_text [] text u) (one_byte 34 (omega arith)))

-- the text of a string is found as that string
pub found_string : (text rest : List ℕ) → IsUtf8 text → Found (string_text text) rest Always (IsString text)
found_string text rest u = one Text (string_text text) (string_token text rest) (IsUtf8-string_text text u)
    (λ line ms. (refl, holds-string_text text, refl))

-- ---- what a token of UTF-8 holds is UTF-8

held_behind : (front : List ℕ) {bs held : List ℕ} → HoldsBehind bs held → IsUtf8 (front ++ bs) → IsUtf8 (front ++ held)
held_behind front string.closed u = subst IsUtf8 (sym (append-nil front)) (split front 34 [] (omega arith) u).0
held_behind front (string.plain {b} {bs} {held} q s h) u =
    subst IsUtf8 (append_assoc front (b ∷ []) held) (held_behind (front ++ b ∷ []) h (subst IsUtf8 (sym (append_assoc front (b ∷ []) bs)) u))
held_behind front (string.escaped {c} {bs} {held} q h) u =
    let parts = split front 92 (c ∷ bs) (omega arith) u in
    subst IsUtf8 (append_assoc front (c ∷ []) held)
    (held_behind (front ++ c ∷ []) h (subst IsUtf8 (sym (append_assoc front (c ∷ []) bs)) (IsUtf8-append front (c ∷ bs) parts.0 parts.1)))
held_behind front (string.lone {c} {bs} {held} q s h) u =
    subst IsUtf8 (append_assoc front (92 ∷ c ∷ []) held)
    (held_behind (front ++ 92 ∷ c ∷ []) h (subst IsUtf8 (sym (append_assoc front (92 ∷ c ∷ []) bs)) u))

pub utf8_held : (text held : List ℕ) → Holds text held → IsUtf8 text → IsUtf8 held
utf8_held [] held h u = absurd h
utf8_held (b ∷ bs) held h u = held_behind [] h.1 (split [] b bs (let e = h.0 in omega arith) u).1
