-- Seals: which key a datagram was made with, and which way it goes.
use Rattle.std.specs.Prelude.{◌≡◌, ℕ, ◌-◌, Bool, List, ◌∷◌, ◌++◌, Option, None, Some, drop, length, nat_eq, nat_lt, take, if◌then◌else◌}
use Rattle.std.specs.Cmp.Lexicographic.{pointwise}
use Rattle.share_keys.specs.Hmac.{hmac}
use Rattle.share_keys.specs.declared.sealing.Direction.{Direction}
use Rattle.share_keys.specs.declared.sealing.Direction.TheVariants.{FromHost, ToHost}

abbrev pub direction_byte : Direction → ℕ
direction_byte FromHost = 0
direction_byte ToHost = 1

-- the first 16 bytes of the HMAC of the direction and the datagram
abbrev pub seal_of : List ℕ → Direction → List ℕ → List ℕ
seal_of key direction datagram = take 16 (hmac key (direction_byte direction ∷ datagram))

-- these bytes are the datagram and its seal
abbrev pub IsSealed : List ℕ → Direction → List ℕ → List ℕ → Type 0
IsSealed key direction datagram bytes = bytes ≡ datagram ++ seal_of key direction datagram

-- the bytes before the last 16
abbrev pub front_of : List ℕ → List ℕ
front_of bytes = take (length bytes - 16) bytes

-- whether the last 16 bytes are the seal of those before them
abbrev pub is_right : List ℕ → Direction → List ℕ → Bool
is_right key direction bytes =
    pointwise nat_eq (drop (length bytes - 16) bytes) (seal_of key direction (front_of bytes))

-- the datagram of which these bytes are the sealed form, if there is one
abbrev pub unsealed_in : List ℕ → Direction → List ℕ → Option (List ℕ)
unsealed_in key direction bytes =
    if nat_lt (length bytes) 16 then None
    else if is_right key direction bytes then Some (front_of bytes) else None
