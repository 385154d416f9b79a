-- What a text begins with: white space, a comment, a token, or a fault.
use Rattle.std.specs.Prelude.{ℕ, ℤ, ◌<◌, ◌≤◌, ◌+◌, List, [], ◌∷◌, take, Bool, false, not, ◌||◌, ◌&&◌, ◌==◌, Option, Some, None, Result, Ok, Err, if◌then◌else◌}
use Rattle.std.specs.List.{prefix_len}
use Rattle.x3d_numerals.specs.Reading.{numeral}
use Rattle.x3d_numerals.specs.declared.fault.NumeralFault.{NumeralFault}
use Rattle.x3d_numerals.specs.declared.fault.NumeralFault.TheVariants as numeral_fault
use Rattle.classic_lex.specs.declared.fault.LexFaultKind.TheVariants.{OpenString, BadNumeral, NumberRange, BadCharacter}
use Rattle.classic_lex.specs.declared.token.TokenKind.TheVariants.{Identifier, Numeral, Text, OpenBracket, CloseBracket, OpenBrace, CloseBrace, Point}
use Rattle.classic_lex.specs.declared.front.Start.{Start}
use Rattle.classic_lex.specs.declared.front.Start.TheVariants.{Blank, Piece, Bad}
use Rattle.classic_bytes.specs.Bytes.{is_space, is_line_end, is_digit, ends_numeral, continues_name, begins_name}
use Rattle.classic_bytes.specs.Strings.{closing}

-- ---- strings

abbrev pub string_front : Option ℕ → Start
string_front None = Bad OpenString
string_front (Some n) = Piece Text (n + 1)

-- ---- numerals

abbrev pub begins_digit : List ℕ → Bool
begins_digit [] = false
begins_digit (b ∷ bs) = is_digit b

-- a digit, a sign, or a point before a digit
unfoldable pub begins_numeral : ℕ → List ℕ → Bool
begins_numeral b bs = is_digit b || b == 43 || b == 45 || (b == 46 && begins_digit bs)

-- the number of bytes before the first that ends a numeral
abbrev pub numeral_len : List ℕ → ℕ
numeral_len bs = prefix_len (λ b. not (ends_numeral b)) bs

abbrev pub numeral_piece : ℕ → Result ℤ NumeralFault → Start
numeral_piece n (Ok value) = Piece Numeral n
numeral_piece n (Err numeral_fault.NotNumeral) = Bad BadNumeral
numeral_piece n (Err numeral_fault.NumberRange) = Bad NumberRange

-- the numeral of the first n bytes, or the fault of these bytes
abbrev pub numeral_front : ℕ → List ℕ → Start
numeral_front n text = numeral_piece n (numeral (take n text))

-- ---- the front

-- a bracket, a brace or a point
unfoldable pub mark : ℕ → Start
mark b =
    if b == 123 then Piece OpenBrace 1
    else (if b == 125 then Piece CloseBrace 1 else (if b == 91 then Piece OpenBracket 1 else
    (if b == 93 then Piece CloseBracket 1
    else (if b == 46 then Piece Point 1 else Bad BadCharacter))))

-- what a text begins with, from its first byte and the others
unfoldable pub front_at : ℕ → List ℕ → Start
front_at b bs =
    if is_space b then Blank 1
    else (if b == 35 then Blank (prefix_len (λ c. not (is_line_end c)) bs + 1)
    else (if b == 34 then string_front (closing false bs)
    else (if begins_numeral b bs then numeral_front (numeral_len bs + 1) (b ∷ bs)
    else (if begins_name b then Piece Identifier (prefix_len continues_name bs + 1)
    else mark b))))

abbrev pub front : List ℕ → Start
front [] = Blank 0
front (b ∷ bs) = front_at b bs

-- the piece has a byte or more, and ends within a text of this length
abbrev pub IsWithin : ℕ → Start → Type 0
IsWithin len (Blank n) = (0 < n) × (n ≤ len)
IsWithin len (Piece k n) = (0 < n) × (n ≤ len)
IsWithin len (Bad f) = Unit {0}
