-- Runs of numerals read the numbers that they speak of, and nothing else.
use Rattle.std.proofs.Common.{◌≡◌, ℕ, ℤ, zero, suc, ◌<◌, ◌≤◌, List, [], ◌∷◌, ◌++◌, length, Ok, refl, sym, ap, ◌∙◌, ⊎_elim, arith, append_assoc}
use Rattle.std.proofs.lemmas.List.{append-nil}
use Rattle.x3d_numerals.specs.Numeral.{IsNumeral}
use Rattle.classic_lex.specs.Lexed.{Tok}
use Rattle.classic_text.specs.declared.terminal.Terminal.TheVariants as t
use Rattle.classic_text.specs.Input.{and_then, kind, sees, number}
use Rattle.classic_text.specs.Grammar.{numbers, numbers_from}
use Rattle.classic_text.specs.Spells.{IsNumber, AreNumbers, AreSomeNumbers}
use Rattle.classic_text.proofs.Seen.{see, unseen, not_see, not_ahead, ahead_not}
use Rattle.classic_text.proofs.Steps.{ok_is, both, chosen, IsSuch-kind, IsSuch-shorter, found_number, only_number}

pub IsNumber-kind : (n : ℤ) (ts rest : List Tok) → IsNumber n ts rest → kind ts ≡ t.Numeral
IsNumber-kind n ts rest h = IsSuch-kind t.Numeral (λ text. IsNumeral text n) ts rest h

pub IsNumber-shorter : (n : ℤ) (ts rest : List Tok) → IsNumber n ts rest → length rest < length ts
IsNumber-shorter n ts rest h = IsSuch-shorter t.Numeral (λ text. IsNumeral text n) ts rest h

found_numbers_from : (n : ℕ) (found ns : List ℤ) (ts rest : List Tok) → length ts ≤ n → numbers_from n found ts ≡ Ok (ns, rest) → (more : List ℤ) × (ns ≡ found ++ more) × AreNumbers more ts rest
unfolding numbers_from kind
found_numbers_from zero found ns [] rest fits h =
    let e = ok_is (found, []) (ns, rest) h in
    ([], ap (λ p. p.0) (sym e) ∙ sym (append-nil found), (tt, ap (λ p. p.1) (sym e)))
found_numbers_from zero found ns (x ∷ ts) rest fits h = absurd (omega arith)
found_numbers_from (suc n) found ns ts rest fits h =
    ⊎_elim (λ c. both (number ts) (λ x. numbers_from n (found ++ x ∷ [])) (ns, rest) c.1 (λ x a e r.
    let is = found_number x ts a e in
    let m = found_numbers_from n (found ++ x ∷ []) ns a rest (omega (arith, IsNumber-shorter x ts a is)) r in
    (x ∷ m.0, m.1 ∙ append_assoc found (x ∷ []) m.0, (a, is, m.2))))
    (λ c. let e = ok_is (found, ts) (ns, rest) c.1 in ([], ap (λ p. p.0) (sym e) ∙ sym (append-nil found), (not_ahead t.Numeral ts (unseen t.Numeral ts c.0), ap (λ p. p.1) (sym e))))
    (chosen (sees t.Numeral ts) (and_then (number ts) (λ x. numbers_from n (found ++ x ∷ []))) (Ok (found, ts)) (Ok (ns, rest)) h)

only_numbers_from : (n : ℕ) (found more : List ℤ) (ts rest : List Tok) → length ts ≤ n → AreNumbers more ts rest → numbers_from n found ts ≡ Ok (found ++ more, rest)
unfolding numbers_from
only_numbers_from zero found [] ts rest fits h = rw (append-nil found, h.1) refl
only_numbers_from (suc n) found [] ts rest fits h = rw (not_see t.Numeral ts (ahead_not t.Numeral ts (λ e. cc) h.0), append-nil found, h.1) refl
only_numbers_from zero found (m ∷ more) ts rest fits h = absurd (omega (arith, IsNumber-shorter m ts h.0 h.1))
only_numbers_from (suc n) found (m ∷ more) ts rest fits h =
    rw (see t.Numeral ts (IsNumber-kind m ts h.0 h.1), only_number m ts h.0 h.1)
    (only_numbers_from n (found ++ m ∷ []) more h.0 rest (omega (arith, IsNumber-shorter m ts h.0 h.1)) h.2 ∙ ap (λ (ns : List ℤ). Ok (ns, rest)) (append_assoc found (m ∷ []) more))

-- a numeral stands there
pub found_numbers : (ns : List ℤ) (ts rest : List Tok) → kind ts ≡ t.Numeral → numbers ts ≡ Ok (ns, rest) → AreSomeNumbers ns ts rest
unfolding numbers
found_numbers ns ts rest k h =
    let r = found_numbers_from (length ts) [] ns ts rest (omega arith) h in
    some r.0 ns r.1 r.2
  where
    some : (more ns : List ℤ) → ns ≡ more → AreNumbers more ts rest → AreSomeNumbers ns ts rest
    some [] ns e n = absurd (ahead_not t.Numeral ts (λ e. cc) n.0 k)
    some (m ∷ more) ns e n = rw e n

pub only_numbers : (ns : List ℤ) (ts rest : List Tok) → AreSomeNumbers ns ts rest → numbers ts ≡ Ok (ns, rest)
unfolding numbers
only_numbers [] ts rest h = absurd h
only_numbers (n ∷ ns) ts rest h = only_numbers_from (length ts) [] (n ∷ ns) ts rest (omega arith) h

AreNumbers-shorter : (ns : List ℤ) (ts rest : List Tok) → AreNumbers ns ts rest → length rest ≤ length ts
AreNumbers-shorter [] ts rest h = rw h.1 (omega arith)
AreNumbers-shorter (n ∷ ns) ts rest h = omega (arith, IsNumber-shorter n ts h.0 h.1, AreNumbers-shorter ns h.0 rest h.2)

pub AreSomeNumbers-shorter : (ns : List ℤ) (ts rest : List Tok) → AreSomeNumbers ns ts rest → length rest < length ts
AreSomeNumbers-shorter [] ts rest h = absurd h
AreSomeNumbers-shorter (n ∷ ns) ts rest h = omega (arith, IsNumber-shorter n ts h.0 h.1, AreNumbers-shorter ns h.0 rest h.2)

pub AreSomeNumbers-kind : (ns : List ℤ) (ts rest : List Tok) → AreSomeNumbers ns ts rest → kind ts ≡ t.Numeral
AreSomeNumbers-kind [] ts rest h = absurd h
AreSomeNumbers-kind (n ∷ ns) ts rest h = IsNumber-kind n ts h.0 h.1
