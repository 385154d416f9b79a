-- The name of a world in a Hello (our choice).
use Rattle.std.specs.Prelude.{ℕ, ◌-◌, ◌++◌, ◌&&◌, ◌||◌, ◌==◌, Bool, List, length, take, drop, replicate, Option, Some, None, nat_le, if◌then◌else◌}
use Rattle.std.specs.List.{list_all}

-- a name as it is sent: its length, and its bytes with zeros after them
pub record NameView : Type 0 where
  pub len : ℕ
  pub bytes : List ℕ

-- a letter or a digit (of ASCII), or one of - . _
abbrev pub is_name_byte : ℕ → Bool
is_name_byte b =
    (nat_le 48 b && nat_le b 57)
    || ((nat_le 65 b && nat_le b 90)
    || ((nat_le 97 b && nat_le b 122)
    || ((b == 45) || ((b == 46) || (b == 95)))))

abbrev pub is_zero_byte : ℕ → Bool
is_zero_byte b = b == 0

-- at most 64 bytes, all of a name, and zeros after them
abbrev pub is_name : (len : ℕ) → List ℕ → Bool
is_name len bytes =
    nat_le len 64
    && (list_all is_name_byte (take len bytes) && list_all is_zero_byte (drop len bytes))

-- the name that a text is
abbrev pub name_of : List ℕ → Option NameView
name_of text =
    if nat_le (length text) 64 && list_all is_name_byte text
    then Some (record { len = length text; bytes = text ++ replicate (64 - length text) 0 })
    else None
