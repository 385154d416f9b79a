-- A text that is read as numbers is words of them, which single spaces part.
use Rattle.std.proofs.Common.{◌≡◌, ℕ, ◌<◌, List, [], ◌∷◌, ◌++◌, length, true, Option, Some, None}
use Rattle.std.proofs.Common.{refl, sym, ap, ◌∙◌}
use Rattle.std.specs.Prelude.{◌^◌}
use Rattle.std.specs.Option.{option_map}
use Rattle.std.specs.Str.{bytes_eq}
use Rattle.std.specs.Cmp.Lexicographic.{same_text}
use Rattle.std.proofs.lemmas.Bool.{ltb-true}
use Rattle.app_jobs.specs.Points.{word, behind}
use Rattle.app_jobs.specs.Schedule.{number}
use Rattle.app_jobs.specs.Schedule.{spaced, AreNumbers, IsCall}
use Rattle.app_jobs.proofs.PointLemmas.{cut_word, word_filled, number_from}

-- ---- what a value was made of

pub record IsMapped {A B : Type 0} (f : A → B) (o : Option A) (b : B) : Type 0 where
  pub value : A
  pub is : o ≡ Some value
  pub same : f value ≡ b

pub mapped : {A B : Type 0} (f : A → B) (o : Option A) (b : B) → option_map f o ≡ Some b → IsMapped f o b
mapped f None b e = absurd (cc)
mapped f (Some a) b e = let same : f a ≡ b = cc in record { value = a; is = refl; same = same }

-- ---- numbers

-- words, which single spaces part, and the numbers that they write
pub record AreWritten (text : List ℕ) (ns : List ℕ) : Type 0 where
  pub first : List ℕ
  pub more : List (List ℕ)
  pub words : text ≡ spaced (first ∷ more)
  pub each : AreNumbers (first ∷ more) ns
  pub filled : 0 < length text

pub record IsOne (text : List ℕ) (n : ℕ) : Type 0 where
  pub numbers : AreNumbers (text ∷ []) (n ∷ [])
  pub filled : 0 < length text

pub one_from : (text : List ℕ) (n : ℕ) → number text ≡ Some n → IsOne text n
unfolding number
one_from text n e =
    let b = number_from (2 ^ 32) text n e in
    record { numbers = (b.number, ltb-true n (2 ^ 32) b.low, tt); filled = b.filled }

pub written_one : (text : List ℕ) (n : ℕ) → number text ≡ Some n → AreWritten text (n ∷ [])
written_one text n e =
    let one = one_from text n e in
    record { first = text; more = []; words = refl; each = one.numbers; filled = one.filled }

-- a first number, and others behind it
pub written_more : (text : List ℕ) (n : ℕ) (ns : List ℕ) → number (word text) ≡ Some n → AreWritten (behind text) ns → AreWritten text (n ∷ ns)
written_more text n ns e w =
    let one = one_from (word text) n e in
    record {
      first = word text;
      more = w.first ∷ w.more;
      words = cut_word text w.filled ∙ ap (λ t. word text ++ (32 ∷ t)) w.words;
      each = (one.numbers.0, one.numbers.1, w.each);
      filled = word_filled text one.filled;
    }

-- ---- a name, and numbers behind it

pub named : (line name text : List ℕ) → bytes_eq (word line) name ≡ true → 0 < length (behind line) → behind line ≡ text → line ≡ name ++ (32 ∷ text)
named line name text is filled same =
    let first : word line ≡ name = same_text (word line) name (sym is) in
    cut_word line filled ∙ (ap (λ n. n ++ (32 ∷ behind line)) first ∙ ap (λ t. name ++ (32 ∷ t)) same)

pub called : (line name : List ℕ) (ns : List ℕ) → bytes_eq (word line) name ≡ true → AreWritten (behind line) ns → IsCall line name ns
called line name ns is w = record {
  texts = w.first ∷ w.more;
  words = named line name (spaced (w.first ∷ w.more)) is w.filled w.words;
  each = w.each;
}

pub called_by : (line text name : List ℕ) (ns : List ℕ) → bytes_eq (word line) name ≡ true → text ≡ behind line → AreWritten text ns → IsCall line name ns
called_by line text name ns is at_text w = called line name ns is (rw at_text at w)
