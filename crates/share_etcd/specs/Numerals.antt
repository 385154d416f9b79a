-- The numbers of keys and values, and those of etcd's answers.
use Rattle.std.specs.Prelude.{◌≡◌, ℕ, ◌^◌, ◌<◌, ◌&&◌, Bool, true, List, Option, None, Some, Result, Ok, Err, if◌then◌else◌, nat_eq, nat_le, nat_lt, decimal}
use Rattle.std.specs.Int.{w64, from_be_bytes}
use Rattle.std.specs.Cmp.Lexicographic.{pointwise}
use Rattle.std.specs.Str.Parse.{digits_value}
use Rattle.byte_codec.specs.Codec.{number_text}
use Rattle.hex.specs.Hex.{encode_lower, decode_sized}
use Rattle.hex.specs.declared.error.FromHexError.{FromHexError}

-- ---- ours: 16 hexadecimal digits

-- the digits of a number of 64 bits, in lower case
abbrev pub digits_of : ℕ → List ℕ
digits_of n = encode_lower (number_text w64 n)

-- the number of these bytes, if the text is its digits
abbrev pub with_digits : List ℕ → Result (List ℕ) FromHexError → Option ℕ
with_digits text (Err _) = None
with_digits text (Ok bytes) =
    if pointwise nat_eq text (encode_lower bytes) then Some (from_be_bytes w64 bytes) else None

-- the number whose digits a text is
abbrev pub number_of : List ℕ → Option ℕ
number_of text = with_digits text (decode_sized text 8)

-- ---- etcd's: decimal

-- a revision at which something was changed: a positive number of 63 bits
abbrev pub is_revision : ℕ → Bool
is_revision n = nat_le 1 n && nat_lt n (2 ^ 63)

-- the revision, if the text is its decimal numeral
abbrev pub with_decimal : List ℕ → ℕ → Option ℕ
with_decimal text n =
    if is_revision n && pointwise nat_eq text (decimal n) then Some n else None

-- the revision whose decimal numeral a text is
abbrev pub revision_of : List ℕ → Option ℕ
revision_of text = with_decimal text (digits_value 10 text)

-- ---- both are exact

abbrev pub NumeralsAreExact : Type 0
NumeralsAreExact =
    ((n : ℕ) → n < 2 ^ 64 → number_of (digits_of n) ≡ Some n)
    × ((text : List ℕ) (n : ℕ) → number_of text ≡ Some n → text ≡ digits_of n)
    × ((n : ℕ) → is_revision n ≡ true → revision_of (decimal n) ≡ Some n)
    × ((text : List ℕ) (n : ℕ) → revision_of text ≡ Some n → text ≡ decimal n)
