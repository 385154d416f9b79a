-- What the grammar sees of a token, and which names are no reserved words.
use Rattle.std.proofs.Common.{◌≡◌, ◌≢◌, ℕ, List, [], ◌∷◌, ◌++◌, true, false, not, refl, sym, ◌∙◌, subst}
use Rattle.std.specs.Prelude.{codes}
use Rattle.std.specs.Str.{bytes_eq}
use Rattle.std.specs.List.{AllByRecursion, list_all}
use Rattle.std.proofs.lemmas.Bool.{false_from_ne_true, and_parts, not-true}
use Rattle.std.proofs.lemmas.Slice.Eq.{bytes_eq-Decides}
use Rattle.classic_lex.specs.declared.token.TokenKind.TheVariants as kind
use Rattle.classic_lex.specs.Lexed.{Tok}
use Rattle.classic_text.specs.Terminal.{terminal_of, word, name_or_access, is_access}
use Rattle.classic_text.specs.Input.{kind as kind_of, spelling}
use Rattle.classic_text.specs.Spells.{Is, IsSuch, NotAhead, NotWordAhead}
use Rattle.classic_round_trip.specs.Spellable.{IsNoneOf, grammar_words, access_words}

abbrev TypeOf : {A : Type 0} → A → Type 0
TypeOf {A} a = A

-- a token's kind, or which word it is
abbrev pub Terminal : Type 0
Terminal = TypeOf (terminal_of kind.Numeral [])

pub Is-kind : (k : Terminal) (ts rest : List Tok) → Is k ts rest → kind_of ts ≡ k
unfolding kind_of
Is-kind k [] rest h = absurd h
Is-kind k (x ∷ ts) rest h = h.0

pub IsSuch-kind : (k : Terminal) (P : List ℕ → Type 0) (ts rest : List Tok) → IsSuch k P ts rest → kind_of ts ≡ k
unfolding kind_of
IsSuch-kind k P [] rest h = absurd h
IsSuch-kind k P (x ∷ ts) rest h = h.0

pub IsSuch-spelling : (k : Terminal) (P : List ℕ → Type 0) (ts rest : List Tok) → IsSuch k P ts rest → P (spelling ts)
unfolding spelling
IsSuch-spelling k P [] rest h = absurd h
IsSuch-spelling k P (x ∷ ts) rest h = h.1

-- ---- what goes on with what stands before it

-- a numeral goes on with a run of numerals, and IS with a declaration
abbrev pub BeginsNew : List Tok → Type 0
BeginsNew ms = NotAhead (terminal_of kind.Numeral []) ms × NotAhead (word (codes "IS")) ms

pub begins_new : (k : Terminal) (ts : List Tok) → kind_of ts ≡ k → k ≢ terminal_of kind.Numeral [] → k ≢ word (codes "IS") → BeginsNew ts
unfolding kind_of
begins_new k [] h n i = (tt, tt)
begins_new k (x ∷ ts) h n i = (λ e. n (sym h ∙ e), λ e. i (sym h ∙ e))

-- ---- reserved words

pub differs : (n w : List ℕ) → n ≢ w → bytes_eq n w ≡ false
differs n w h = false_from_ne_true (bytes_eq n w) (λ e. h ((bytes_eq-Decides n w).0 e))

pub other_than : (n w : List ℕ) → bytes_eq n w ≡ false → n ≢ w
other_than n w h e = let k : bytes_eq n w ≡ true = (bytes_eq-Decides n w).1 e in cc

-- no word of the grammar or of access is the word of a name
pub word_of_name : (n : List ℕ) → IsNoneOf grammar_words n → IsNoneOf access_words n → word n ≡ word []
unfolding word name_or_access is_access
word_of_name n g a = rw (
  differs n (codes "DEF") g.0,
  differs n (codes "USE") g.1.0,
  differs n (codes "ROUTE") g.1.1.0,
  differs n (codes "TO") g.1.1.1.0,
  differs n (codes "PROTO") g.1.1.1.1.0,
  differs n (codes "IS") g.1.1.1.1.1.0,
  differs n (codes "NULL") g.1.1.1.1.1.1.0,
  differs n (codes "TRUE") g.1.1.1.1.1.1.1.0,
  differs n (codes "FALSE") g.1.1.1.1.1.1.1.1.0,
  differs n (codes "inputOnly") a.0,
  differs n (codes "outputOnly") a.1.0,
  differs n (codes "inputOutput") a.1.1.0,
  differs n (codes "initializeOnly") a.1.1.1.0,
  differs n (codes "eventIn") a.1.1.1.1.0,
  differs n (codes "eventOut") a.1.1.1.1.1.0,
  differs n (codes "exposedField") a.1.1.1.1.1.1.0,
  differs n (codes "field") a.1.1.1.1.1.1.1.0,
) refl

module _ (n : List ℕ) (h : word n ≡ word []) where
  at : (w : List ℕ) → n ≡ w → word w ≡ word []
  at w e = subst (λ (m : List ℕ). word m ≡ word []) e h

  pub no_grammar_word : IsNoneOf grammar_words n
  unfolding word name_or_access is_access
  no_grammar_word = (
    λ e. let k = at (codes "DEF") e in cc,
    (
      λ e. let k = at (codes "USE") e in cc,
      (
        λ e. let k = at (codes "ROUTE") e in cc,
        (
          λ e. let k = at (codes "TO") e in cc,
          (
            λ e. let k = at (codes "PROTO") e in cc,
            (
              λ e. let k = at (codes "IS") e in cc,
              (
                λ e. let k = at (codes "NULL") e in cc,
                (
                  λ e. let k = at (codes "TRUE") e in cc,
                  (λ e. let k = at (codes "FALSE") e in cc, tt),
                ),
              ),
            ),
          ),
        ),
      ),
    ),
  )

  pub no_access_word : IsNoneOf access_words n
  unfolding word name_or_access is_access
  no_access_word = (
    λ e. let k = at (codes "inputOnly") e in cc,
    (
      λ e. let k = at (codes "outputOnly") e in cc,
      (
        λ e. let k = at (codes "inputOutput") e in cc,
        (
          λ e. let k = at (codes "initializeOnly") e in cc,
          (
            λ e. let k = at (codes "eventIn") e in cc,
            (
              λ e. let k = at (codes "eventOut") e in cc,
              (
                λ e. let k = at (codes "exposedField") e in cc,
                (λ e. let k = at (codes "field") e in cc, tt),
              ),
            ),
          ),
        ),
      ),
    ),
  )

-- ---- the words that the next token is not

-- the next token, if there is one, is none of these words
abbrev pub SeesNoneOf : List (List ℕ) → List Tok → Type 0
SeesNoneOf words ts = AllByRecursion (λ w. NotWordAhead w ts) words

pub not_ahead : (n w : List ℕ) (ts : List Tok) → spelling ts ≡ n → n ≢ w → NotWordAhead w ts
unfolding spelling
not_ahead n w [] e h = tt
not_ahead n w (x ∷ ts) e h = λ q. h (sym e ∙ q)

pub sees_none : (words : List (List ℕ)) (ts : List Tok) (n : List ℕ) → spelling ts ≡ n → IsNoneOf words n → SeesNoneOf words ts
sees_none [] ts n e h = tt
sees_none (w ∷ words) ts n e h = (not_ahead n w ts e h.0, sees_none words ts n e h.1)

-- behind the last token there is no word
pub sees_nothing : (words : List (List ℕ)) (ts : List Tok) → ts ≡ [] → SeesNoneOf words ts
sees_nothing words ts e = subst (SeesNoneOf words) (sym e) (none words)
  where
    none : (words : List (List ℕ)) → SeesNoneOf words []
    none [] = tt
    none (w ∷ words) = (tt, none words)

pub none_seen : (words : List (List ℕ)) (k : Terminal) (ts rest : List Tok) (n : List ℕ) → IsSuch k (λ text. text ≡ n) ts rest → SeesNoneOf words ts
    → IsNoneOf words n
none_seen [] k ts rest n h w = tt
none_seen (v ∷ words) k [] rest n h w = absurd h
none_seen (v ∷ words) k (x ∷ ts) rest n h w = (λ e. w.0 (h.1 ∙ e), none_seen words k (x ∷ ts) rest n h w.1)

-- ---- words that are told apart by computing

pub none_of : (words : List (List ℕ)) (n : List ℕ) → list_all (λ w. not (bytes_eq n w)) words ≡ true → IsNoneOf words n
none_of [] n h = tt
none_of (w ∷ words) n h = let p = and_parts (not (bytes_eq n w)) (list_all (λ w. not (bytes_eq n w)) words) h in
    (other_than n w (not-true (bytes_eq n w) p.0), none_of words n p.1)

pub first_words : (some others : List (List ℕ)) (ts : List Tok) → SeesNoneOf (some ++ others) ts → SeesNoneOf some ts × SeesNoneOf others ts
first_words [] others ts h = (tt, h)
first_words (w ∷ some) others ts h = let p = first_words some others ts h.1 in ((h.0, p.0), p.1)

pub all_words : (some others : List (List ℕ)) (ts : List Tok) → SeesNoneOf some ts → SeesNoneOf others ts → SeesNoneOf (some ++ others) ts
all_words [] others ts h k = k
all_words (w ∷ some) others ts h k = (h.0, all_words some others ts h.1 k)
