-- HMAC-SHA256 (RFC 2104, section 2), and seals made by it.
use Rattle.std.specs.Prelude.{ℕ, List, ◌++◌, nat_lt, ◌-◌, length, map, replicate, if◌then◌else◌}
use Rattle.std.specs.Int.Bits.{bit_xor}
use Rattle.sha2.specs.Sha256.{sha256}

-- the key with zeros after it, one block of SHA-256 long
abbrev pub padded : List ℕ → List ℕ
padded key = key ++ replicate (64 - length key) 0

-- a key that is longer than a block is hashed first
abbrev pub block_of : List ℕ → List ℕ
block_of key = if nat_lt 64 (length key) then padded (sha256 key) else padded key

abbrev pub masked : ℕ → List ℕ → List ℕ
masked mask block = map (λ byte. bit_xor byte mask) block

-- H(K xor opad, H(K xor ipad, text)): ipad is 0x36, opad is 0x5c
abbrev pub hmac : List ℕ → List ℕ → List ℕ
hmac key text =
    sha256 (masked 92 (block_of key) ++ sha256 (masked 54 (block_of key) ++ text))
