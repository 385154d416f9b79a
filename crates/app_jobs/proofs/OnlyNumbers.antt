-- Words that single spaces part and that are numbers, one or two, are those numbers.
use Rattle.std.proofs.Common.{◌≡◌, ℕ, ◌<◌, pos, List, [], ◌∷◌, ◌++◌, true, Some, Ok}
use Rattle.std.proofs.Common.{refl, sym, ap, ◌∙◌}
use Rattle.std.specs.Prelude.{◌^◌, ◌/◌, nat_lt}
use Rattle.std.proofs.lemmas.Bool.{lt-ltb}
use Rattle.x3d_numerals.specs.Reading.{numeral}
use Rattle.x3d_numerals.proofs.Numerals.{numeral_complete}
use Rattle.x3d_values.specs.declared.vector.Vec3.{Vec3}
use Rattle.app_jobs.specs.Points.{word, behind, number_below, vector_of, IsNumber, AreNumerals}
use Rattle.app_jobs.specs.Schedule.{number}
use Rattle.app_jobs.specs.Schedule.{spaced, AreNumbers}
use Rattle.app_jobs.proofs.SpaceLemmas.{Spaceless, word_is, behind_is, numeral_is}

pub number_is : (limit : ℕ) (text : List ℕ) (n : ℕ) → IsNumber text n → n < limit → number_below limit text ≡ Some n
unfolding number_below
number_is limit text n h low =
    let read : numeral text ≡ Ok (pos h.millionths) = numeral_complete text (pos h.millionths) h.numeral in
    let few : nat_lt (h.millionths / 1000000) limit ≡ true = lt-ltb (h.millionths / 1000000) limit (rw h.units at low) in
    rw (h.digits, read, few) (ap Some (sym h.units))

pub vector_is : (x y z : List ℕ) (v : Vec3) → AreNumerals x y z v → vector_of x y z ≡ Some v
unfolding vector_of
vector_is x y z v h = rw (numeral_complete x v.x h.x_is, numeral_complete y v.y h.y_is, numeral_complete z v.z h.z_is) refl

pub one_is : (text : List ℕ) (n : ℕ) → AreNumbers (text ∷ []) (n ∷ []) → number text ≡ Some n
unfolding number
one_is text n h = number_is (2 ^ 32) text n h.0 h.1

-- the first of some words, which is a number
pub record IsFirst (texts : List (List ℕ)) (n : ℕ) (ns : List ℕ) : Type 0 where
  pub text : List ℕ
  pub more : List (List ℕ)
  pub is : texts ≡ text ∷ more
  pub number_is : number text ≡ Some n
  pub apart : Spaceless text
  pub others : AreNumbers more ns

pub first_of : (texts : List (List ℕ)) (n : ℕ) (ns : List ℕ) → AreNumbers texts (n ∷ ns) → IsFirst texts n ns
unfolding number
first_of [] n ns h = absurd h
first_of (text ∷ more) n ns h = record {
  text = text;
  more = more;
  is = refl;
  number_is = number_is (2 ^ 32) text n h.0 h.1;
  apart = numeral_is text (pos h.0.millionths) h.0.numeral;
  others = h.2;
}

pub record IsLast (texts : List (List ℕ)) (n : ℕ) : Type 0 where
  pub text : List ℕ
  pub is : texts ≡ text ∷ []
  pub number_is : number text ≡ Some n
  pub apart : Spaceless text

none_left : (texts : List (List ℕ)) → AreNumbers texts [] → texts ≡ []
none_left [] h = refl
none_left (text ∷ more) h = absurd h

pub last_of : (texts : List (List ℕ)) (n : ℕ) → AreNumbers texts (n ∷ []) → IsLast texts n
last_of texts n h =
    let f = first_of texts n [] h in
    record { text = f.text; is = f.is ∙ ap (λ l. f.text ∷ l) (none_left f.more f.others); number_is = f.number_is; apart = f.apart }

-- the text behind a name: a number and another
pub record AreTwo (texts : List (List ℕ)) (a b : ℕ) : Type 0 where
  pub text : List ℕ
  pub first_is : number (word text) ≡ Some a
  pub second_is : number (behind text) ≡ Some b
  pub name : (line : List ℕ) → spaced (line ∷ texts) ≡ line ++ (32 ∷ text)

pub two_of : (texts : List (List ℕ)) (a b : ℕ) → AreNumbers texts (a ∷ b ∷ []) → AreTwo texts a b
two_of texts a b h =
    let f = first_of texts a (b ∷ []) h in
    let l = last_of f.more b f.others in
    let both : texts ≡ f.text ∷ l.text ∷ [] = f.is ∙ ap (λ m. f.text ∷ m) l.is in
    record {
      text = f.text ++ (32 ∷ l.text);
      first_is = ap number (word_is f.text l.text f.apart) ∙ f.number_is;
      second_is = ap number (behind_is f.text l.text f.apart) ∙ l.number_is;
      name = λ line. ap (λ t. spaced (line ∷ t)) both;
    }
