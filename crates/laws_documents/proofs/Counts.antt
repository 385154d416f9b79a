-- What stands in tokens is no longer than they are, and no more.
use Rattle.std.proofs.Common.{ℕ, ℤ, ◌+◌, ◌≤◌, ◌<◌, Bool, true, false, List, [], ◌∷◌, length, arith}
use Rattle.std.specs.Prelude.{codes}
use Rattle.classic_lex.specs.declared.token.TokenKind.TheVariants as kind
use Rattle.classic_lex.specs.Lexed.{Tok}
use Rattle.classic_text.specs.Spells.{AreNumbers, AreUntil, Is, IsNumber, IsString, IsTruth}
use Rattle.classic_text.specs.Strings.{Holds, HoldsBehind, closed, plain, escaped, lone}
use Rattle.classic_text.specs.Terminal.{terminal_of, word}

-- what a string holds is no longer than what stands behind its quote
held_behind : {bs s : List ℕ} → HoldsBehind bs s → length s ≤ length bs
held_behind closed = omega arith
held_behind (plain {b} {bs} {held} other further h) = omega (arith, held_behind h)
held_behind (escaped {c} {bs} {held} e h) = omega (arith, held_behind h)
held_behind (lone {c} {bs} {held} other further h) = omega (arith, held_behind h)

pub held_short : (text s : List ℕ) → Holds text s → length s ≤ length text
held_short [] s h = absurd h
held_short (b ∷ bs) s h = omega (arith, held_behind h.1)

-- the type of the kinds of tokens
abbrev TypeOf : {A : Type 0} → A → Type 0
TypeOf {A} a = A

abbrev pub Terminal : Type 0
Terminal = TypeOf (terminal_of kind.Numeral [])

is_shorter : (k : Terminal) (ts rest : List Tok) → Is k ts rest → length rest < length ts
is_shorter k [] rest h = absurd h
is_shorter k (x ∷ ts) rest h = rw h.1 (omega arith)

pub truth_shorter : (b : Bool) (ts rest : List Tok) → IsTruth b ts rest → length rest < length ts
unfolding word
truth_shorter true ts rest h = is_shorter (word (codes "TRUE")) ts rest h
truth_shorter false ts rest h = is_shorter (word (codes "FALSE")) ts rest h

pub string_shorter : (s : List ℕ) (ts rest : List Tok) → IsString s ts rest → length rest < length ts
string_shorter s [] rest h = absurd h
string_shorter s (x ∷ ts) rest h = rw h.2 (omega arith)

pub number_shorter : (n : ℤ) (ts rest : List Tok) → IsNumber n ts rest → length rest < length ts
number_shorter n [] rest h = absurd h
number_shorter n (x ∷ ts) rest h = rw h.2 (omega arith)

-- each number and each item takes a token
pub numbers_few : (ns : List ℤ) (ts rest : List Tok) → AreNumbers ns ts rest → length ns + length rest ≤ length ts
numbers_few [] ts rest h = rw h.1 (omega arith)
numbers_few (n ∷ ns) ts rest h = omega (arith, number_shorter n ts h.0 h.1, numbers_few ns h.0 rest h.2)

pub until_few : {A : Type 0} (k : Terminal) (Item : A → List Tok → List Tok → Type 0) → ((x : A) (ts rest : List Tok) → Item x ts rest → length rest < length ts)
    → (xs : List A) (ts rest : List Tok) → AreUntil k Item xs ts rest → length xs + length rest < length ts
until_few k Item shorter [] ts rest h = omega (arith, is_shorter k ts rest h)
until_few k Item shorter (x ∷ xs) ts rest h = omega (arith, shorter x ts h.0 h.1, until_few k Item shorter xs h.0 rest h.2)

pub within : (xs rest ts most : ℕ) → xs + rest ≤ ts → ts ≤ most → xs ≤ most
within xs rest ts most h k = omega (arith, h, k)

pub within_strictly : (xs rest ts most : ℕ) → xs + rest < ts → ts ≤ most → xs ≤ most
within_strictly xs rest ts most h k = omega (arith, h, k)
