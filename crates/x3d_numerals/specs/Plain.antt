-- A numeral of digits and a point alone.
use Rattle.std.specs.Prelude.{◌≡◌, ℕ, ◌+◌, ◌<◌, List, [], ◌++◌, Option, length, unwrap_or}
use Rattle.std.specs.Str.Parse.{AllDigits}
use Rattle.x3d_numerals.specs.Numeral.{point_text}

-- one or more digits, with at most one point among them
pub record IsPlain (text : List ℕ) : Type 0 where
  pub whole : List ℕ
  pub fraction : Option (List ℕ)
  pub spelled : whole ++ point_text fraction ≡ text
  pub digits : AllDigits 10 whole
  pub places : AllDigits 10 (unwrap_or fraction [])
  pub some_digit : 0 < length whole + length (unwrap_or fraction [])
