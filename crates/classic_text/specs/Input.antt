-- The tokens that the grammar reads, and the steps that every rule is made of.
use Rattle.std.specs.Prelude.{ℕ, ℤ, Bool, true, false, ◌&&◌, if◌then◌else◌, List, [], ◌∷◌, Option, Some, None, Result, Ok, Err}
use Rattle.std.specs.Str.{bytes_eq}
use Rattle.x3d_numerals.specs.Reading.{numeral}
use Rattle.x3d_numerals.specs.declared.fault.NumeralFault.{NumeralFault}
use Rattle.x3d_lists.specs.Answers.{Gives}
use Rattle.x3d_values.specs.declared.field_type.Access.{Access}
use Rattle.x3d_values.specs.declared.field_type.FieldType.{FieldType}
use Rattle.x3d_values.specs.Names.{access_named, field_type_named}
use Rattle.classic_lex.specs.Lexed.{Tok}
use Rattle.classic_text.specs.declared.refusal.Refusal.{Refusal}
use Rattle.classic_text.specs.declared.refusal.Refusal.TheVariants.{Memory, Unexpected, UnexpectedEnd, Unsupported}
use Rattle.classic_text.specs.declared.terminal.Terminal.{Terminal}
use Rattle.classic_text.specs.declared.terminal.Terminal.TheVariants as t
use Rattle.classic_text.specs.Terminal.{terminal_of, same, line}
use Rattle.classic_text.specs.Levels.{has_level}
use Rattle.classic_text.specs.Unquoted.{unquoted, is_quoted}

-- ---- the next token

unfoldable pub kind : List Tok → Terminal
kind [] = t.End
kind (x ∷ ts) = terminal_of x.kind x.text

unfoldable pub spelling : List Tok → List ℕ
spelling [] = []
spelling (x ∷ ts) = x.text

unfoldable pub next : List Tok → List Tok
next [] = []
next (x ∷ ts) = ts

unfoldable pub sees : Terminal → List Tok → Bool
sees k ts = same (kind ts) k

unfoldable pub sees_word : List ℕ → List Tok → Bool
sees_word w ts = bytes_eq (spelling ts) w

unfoldable pub at_end : List Tok → Bool
at_end [] = true
at_end (x ∷ ts) = false

-- ---- parsers

abbrev pub Parsed : Type 0 → Type 0
Parsed A = Result (A × List Tok) Refusal

abbrev pub Parser : Type 0 → Type 0
Parser A = List Tok → Parsed A

abbrev pub and_then : {A B : Type 0} → Parsed A → (A → Parser B) → Parsed B
and_then (Ok p) f = f p.0 p.1
and_then (Err e) f = Err e

infixl 10 ◌>>=◌
abbrev pub ◌>>=◌ : {A B : Type 0} → Parser A → (A → Parser B) → Parser B
p >>= f = λ ts. and_then (p ts) f

abbrev pub pure : {A : Type 0} → A → Parser A
pure a = λ ts. Ok (a, ts)

-- the fault if no rule reads the next token
unfoldable pub refusal : List Tok → Refusal
refusal [] = UnexpectedEnd
refusal (x ∷ ts) = Unexpected x.line

abbrev pub refuse : {A : Type 0} → Parser A
refuse = λ ts. Err (refusal ts)

abbrev pub peek : Parser Terminal
peek = λ ts. Ok (kind ts, ts)

abbrev pub here : Parser ℕ
here = λ ts. Ok (line ts, ts)

-- a token of this kind
unfoldable pub expect : Terminal → Parser (Unit {0})
expect k = λ ts. if sees k ts then Ok (tt, next ts) else refuse ts

-- that word, reserved or not
unfoldable pub expect_word : List ℕ → Parser (Unit {0})
expect_word w = λ ts. if sees_word w ts then Ok (tt, next ts) else refuse ts

-- the text of the next token, which is consumed later
abbrev pub copied : Parser (List ℕ)
copied = λ ts. Ok (spelling ts, ts)

-- a name
unfoldable pub name : Parser (List ℕ)
name = λ ts. if sees t.Name ts then Ok (spelling ts, next ts) else refuse ts

-- a name with a level
unfoldable pub component_name : Parser (List ℕ)
component_name = λ ts. if sees t.Name ts && has_level (spelling ts) then Ok (spelling ts, next ts)
    else refuse ts

-- the next token is a string, which has both its quotes
unfoldable pub sees_string : List Tok → Bool
sees_string ts = sees t.String ts && is_quoted (spelling ts)

-- a string, without its quotes and escapes
unfoldable pub string : Parser (List ℕ)
string = λ ts. if sees_string ts then Ok (unquoted (spelling ts), next ts) else refuse ts

unfoldable pub truth : Parser Bool
truth = λ ts. if sees t.True ts then Ok (true, next ts)
    else (if sees t.False ts then Ok (false, next ts) else refuse ts)

abbrev pub number_by : Result ℤ NumeralFault → Parser ℤ
number_by (Ok n) = λ ts. Ok (n, next ts)
number_by (Err e) = refuse

-- the whole millionths of a numeral
unfoldable pub number : Parser ℤ
number = λ ts. if sees t.Numeral ts then number_by (numeral (spelling ts)) ts else refuse ts

abbrev pub access_by : Option Access → Parser Access
access_by (Some a) = λ ts. Ok (a, next ts)
access_by None = refuse

-- a word of access
unfoldable pub access : Parser Access
access = λ ts. if sees t.Access ts then access_by (access_named (spelling ts)) ts else refuse ts

abbrev pub type_by : Option FieldType → Parser FieldType
type_by (Some f) = λ ts. Ok (f, next ts)
type_by None = λ ts. Err (Unsupported (line ts))

-- the type of a declared field; other types are not supported
unfoldable pub field_type : Parser FieldType
field_type = λ ts. if sees t.Name ts then type_by (field_type_named (spelling ts)) ts else refuse ts

-- ---- what a function that reads ensures: the parser's outcome, unless memory runs out

abbrev pub ReadsTokens : {A : Type 0} → Parsed A → Result A Refusal → List Tok → Type 0
ReadsTokens outcome result new = Gives Memory (λ a. (a, new)) result outcome
