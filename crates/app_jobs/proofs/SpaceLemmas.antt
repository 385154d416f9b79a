-- Words have no space in them, so a line is cut where they were joined.
use Rattle.std.proofs.Common.{◌≡◌, ◌⊎◌, ℕ, ◌≤◌, ◌<◌, ℤ, List, [], ◌∷◌, ◌++◌, false, Option, Some, None}
use Rattle.std.proofs.Common.{refl, ap, subst, ◌∙◌, inl, inr, arith, eqb-true}
use Rattle.std.specs.Prelude.{⊤, unwrap_or}
use Rattle.std.specs.Option.{option_to_list}
use Rattle.std.specs.Char.{digit_value}
use Rattle.std.specs.Str.Parse.{AllDigits}
use Rattle.std.proofs.lemmas.Bool.{cases_Bool}
use Rattle.x3d_numerals.specs.Numeral.{Exponent, Parts, decimal, hexadecimal, point_text, exponent_text, spelling, IsSign, IsExponent, IsForm, IsNumeral}
use Rattle.app_jobs.specs.Points.{is_space, word, behind}
use Rattle.app_jobs.proofs.JobLemmas.{before-cons_no, before-cons_yes}
use Rattle.app_jobs.proofs.PointLemmas.{after-cons_no, after-cons_yes}

abbrev pub Spaceless : List ℕ → Type 0
Spaceless [] = ⊤
Spaceless (c ∷ cs) = (is_space c ≡ false) × Spaceless cs

-- ---- words of a line

pub word_is : (a b : List ℕ) → Spaceless a → word (a ++ (32 ∷ b)) ≡ a
unfolding word
word_is [] b h = before-cons_yes is_space 32 b refl
word_is (c ∷ a) b h = before-cons_no is_space c (a ++ (32 ∷ b)) h.0 ∙ ap (λ l. c ∷ l) (word_is a b h.1)

pub behind_is : (a b : List ℕ) → Spaceless a → behind (a ++ (32 ∷ b)) ≡ b
unfolding behind
behind_is [] b h = after-cons_yes 32 b refl
behind_is (c ∷ a) b h = after-cons_no c (a ++ (32 ∷ b)) h.0 ∙ behind_is a b h.1

-- ---- numerals

spaceless_both : (a b : List ℕ) → Spaceless a → Spaceless b → Spaceless (a ++ b)
spaceless_both [] b h k = k
spaceless_both (c ∷ a) b h k = (h.0, spaceless_both a b h.1 k)

digit_is : (radix c : ℕ) → radix ≤ 16 → digit_value c < radix → is_space c ≡ false
digit_is radix c few h = elim (cases_Bool (is_space c)) [
  | inl space ↦
      let same : c ≡ 32 = eqb-true c 32 space in
      let high : 36 < radix = rw same at h in
      absurd (omega (arith, few, high))
  | inr other ↦ other
]

digits_are : (radix : ℕ) (cs : List ℕ) → radix ≤ 16 → AllDigits radix cs → Spaceless cs
digits_are radix [] few h = tt
digits_are radix (c ∷ cs) few h = (digit_is radix c few h.0, digits_are radix cs few h.1)

sign_is : (sign : Option ℕ) → IsSign sign → Spaceless (option_to_list sign)
sign_is None h = tt
sign_is (Some c) (inl plus) = (rw plus refl, tt)
sign_is (Some c) (inr minus) = (rw minus refl, tt)

point_is : (fraction : Option (List ℕ)) → AllDigits 10 (unwrap_or fraction []) → Spaceless (point_text fraction)
point_is None h = tt
point_is (Some digits) h = (refl, digits_are 10 digits (omega arith) h)

exponent_letter : (c : ℕ) → (c ≡ 101) ⊎ (c ≡ 69) → is_space c ≡ false
exponent_letter c (inl small) = rw small refl
exponent_letter c (inr large) = rw large refl

exponent_is : (e : Option Exponent) → IsExponent e → Spaceless (exponent_text e)
exponent_is None h = tt
exponent_is (Some e) h =
    (exponent_letter e.letter h.0, spaceless_both (option_to_list e.sign) e.digits (sign_is e.sign h.1) (digits_are 10 e.digits (omega arith) h.2))

hexadecimal_letter : (c : ℕ) → (c ≡ 120) ⊎ (c ≡ 88) → is_space c ≡ false
hexadecimal_letter c (inl small) = rw small refl
hexadecimal_letter c (inr large) = rw large refl

spelling_is : (p : Parts) → IsForm p → Spaceless (spelling p)
spelling_is (decimal d) h =
    spaceless_both (option_to_list d.sign) (d.whole ++ (point_text d.fraction ++ exponent_text d.exponent)) (sign_is d.sign h.sign)
    (spaceless_both d.whole (point_text d.fraction ++ exponent_text d.exponent) (digits_are 10 d.whole (omega arith) h.whole)
    (spaceless_both (point_text d.fraction) (exponent_text d.exponent) (point_is d.fraction h.fraction) (exponent_is d.exponent h.exponent)))
spelling_is (hexadecimal x) h =
    spaceless_both (option_to_list x.sign) (48 ∷ x.letter ∷ x.digits) (sign_is x.sign h.sign)
    (refl, (hexadecimal_letter x.letter h.letter, digits_are 16 x.digits (omega arith) h.digits))

pub numeral_is : (text : List ℕ) (n : ℤ) → IsNumeral text n → Spaceless text
numeral_is text n h = subst Spaceless h.spelled (spelling_is h.parts h.form)
