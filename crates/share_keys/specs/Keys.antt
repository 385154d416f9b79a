-- A key file: one line for each viewer, its number, a space and its key in 64 hexadecimal digits.
use Rattle.std.specs.Prelude.{◌≡◌, ◌<◌, ◌+◌, ◌-◌, ◌*◌, ◌/◌, ◌%◌, ◌&&◌, ◌==◌, ℕ, nat_le, nat_lt, List, [], ◌∷◌, ◌++◌, Option, Some, None, Result, Ok, Err, if◌then◌else◌}
use Rattle.hex.specs.Hex.{decode_sized}
use Rattle.hex.specs.declared.error.FromHexError.{FromHexError}
use Rattle.share_keys.specs.declared.keys.ViewerKey.{ViewerKey}

-- a viewer's number in decimal digits, without a zero before others
abbrev pub written : ℕ → List ℕ
written who =
    if nat_lt who 10 then (48 + who) ∷ [] else (48 + who / 10) ∷ (48 + who % 10) ∷ []

-- the line of a viewer's key
abbrev pub IsLineOf : ViewerKey → List ℕ → Type 0
IsLineOf key line =
    (digits : List ℕ) × (line ≡ written key.who ++ 32 ∷ digits)
    × (decode_sized digits 32 ≡ Ok key.key.bytes) × (key.who < 64)

-- ---- the parts of a line, as they are read

abbrev pub one_digit : ℕ → Option ℕ
one_digit byte = if nat_le 48 byte && nat_le byte 57 then Some (byte - 48) else None

abbrev pub within : ℕ → Option ℕ
within who = if nat_le 10 who && nat_lt who 64 then Some who else None

abbrev pub two_digits : Option ℕ → Option ℕ → Option ℕ
two_digits (Some ten) (Some one) = within (ten * 10 + one)
two_digits (Some ten) None = None
two_digits None one = None

abbrev pub keyed : ℕ → Result (List ℕ) FromHexError → Option ViewerKey
keyed who (Ok bytes) = Some (record { who = who; key = record { bytes = bytes } })
keyed who (Err fault) = None

abbrev pub numbered : Option ℕ → List ℕ → Option ViewerKey
numbered (Some who) digits = keyed who (decode_sized digits 32)
numbered None digits = None

unfoldable pub after_two : Option ℕ → List ℕ → Option ViewerKey
after_two who [] = None
after_two who (byte ∷ digits) = if byte == 32 then numbered who digits else None

unfoldable pub after_one : ℕ → List ℕ → Option ViewerKey
after_one one [] = None
after_one one (byte ∷ rest) =
    if byte == 32 then numbered (one_digit one) rest
    else after_two (two_digits (one_digit one) (one_digit byte)) rest

unfoldable pub line_key : List ℕ → Option ViewerKey
line_key [] = None
line_key (one ∷ rest) = after_one one rest
