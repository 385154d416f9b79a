-- What stands next, by the tests of the reader.
use Rattle.std.proofs.Common.{◌≡◌, ℕ, List, [], ◌∷◌, true, false, ◌∙◌, sym, rules}
use denote.Enum.Bare.{same_true, same_false, true_same, false_same}
use Rattle.std.specs.Str.{bytes_eq}
use Rattle.std.proofs.lemmas.Bool.{false_from_ne_true}
use Rattle.std.proofs.lemmas.Slice.Eq.{bytes_eq-Decides}
use Rattle.classic_lex.specs.Lexed.{Tok}
use Rattle.classic_text.specs.contracts.terminal.Terminal.{the_type}
use Rattle.classic_text.specs.declared.terminal.Terminal.{Terminal}
use Rattle.classic_text.specs.declared.terminal.Terminal.TheVariants as t
use Rattle.classic_text.specs.Terminal.{same}
use Rattle.classic_text.specs.Input.{kind, spelling, sees, sees_word}
use Rattle.classic_text.specs.Spells.{NotAhead, NotWordAhead, IsName}

-- ---- kinds

pub seen : (k : Terminal) (ts : List Tok) → sees k ts ≡ true → kind ts ≡ k
unfolding sees same
seen k ts h = same_true the_type (search rules) (kind ts) k h

pub see : (k : Terminal) (ts : List Tok) → kind ts ≡ k → sees k ts ≡ true
unfolding sees same
see k ts h = true_same the_type (kind ts) k h

pub unseen : (k : Terminal) (ts : List Tok) → sees k ts ≡ false → kind ts ≡ k → ⊥
unfolding sees same
unseen k ts h = same_false the_type (kind ts) k h

pub not_see : (k : Terminal) (ts : List Tok) → (kind ts ≡ k → ⊥) → sees k ts ≡ false
unfolding sees same
not_see k ts h = false_same the_type (search rules) (kind ts) k h

pub not_ahead : (k : Terminal) (ts : List Tok) → (kind ts ≡ k → ⊥) → NotAhead k ts
unfolding kind
not_ahead k [] h = tt
not_ahead k (x ∷ ts) h = h

pub ahead_not : (k : Terminal) (ts : List Tok) → (t.End ≡ k → ⊥) → NotAhead k ts → kind ts ≡ k → ⊥
unfolding kind
ahead_not k [] real h e = real e
ahead_not k (x ∷ ts) real h e = h e

-- ---- words

pub same_word : (s w : List ℕ) → bytes_eq s w ≡ true → s ≡ w
same_word s w h = (bytes_eq-Decides s w).0 h

pub word_same : (s w : List ℕ) → s ≡ w → bytes_eq s w ≡ true
word_same s w e = (bytes_eq-Decides s w).1 e

pub other_word : (s w : List ℕ) → (s ≡ w → ⊥) → bytes_eq s w ≡ false
other_word s w h = false_from_ne_true (bytes_eq s w) (λ e. h (same_word s w e))

pub word_other : (s w : List ℕ) → bytes_eq s w ≡ false → s ≡ w → ⊥
word_other s w h e = let yes : bytes_eq s w ≡ true = word_same s w e in let c : false ≡ true = sym h ∙ yes in cc

-- a word has a byte
abbrev pub IsSome : List ℕ → Type 0
IsSome [] = ⊥
IsSome (b ∷ bs) = Unit {0}

pub not_word_ahead : (w : List ℕ) (ts : List Tok) → sees_word w ts ≡ false → NotWordAhead w ts
unfolding sees_word spelling
not_word_ahead w [] h = tt
not_word_ahead w (x ∷ ts) h = word_other x.text w h

pub word_not_ahead : (w : List ℕ) (ts : List Tok) → IsSome w → NotWordAhead w ts → sees_word w ts ≡ false
unfolding sees_word spelling
word_not_ahead [] ts some h = absurd some
word_not_ahead (b ∷ w) [] some h = other_word [] (b ∷ w) (λ e. cc)
word_not_ahead (b ∷ w) (x ∷ ts) some h = other_word x.text (b ∷ w) h

-- a name that is another word than the one that is looked for
pub other_name : (w n : List ℕ) (ts rest : List Tok) → sees_word w ts ≡ false → IsName n ts rest → n ≡ w → ⊥
unfolding sees_word spelling
other_name w n [] rest h is e = absurd is
other_name w n (x ∷ ts) rest h is e = word_other x.text w h (is.1 ∙ e)

pub name_other : (w n : List ℕ) (ts rest : List Tok) → (n ≡ w → ⊥) → IsName n ts rest → sees_word w ts ≡ false
unfolding sees_word spelling
name_other w n [] rest h is = absurd is
name_other w n (x ∷ ts) rest h is = other_word x.text w (λ e. h (sym is.1 ∙ e))
