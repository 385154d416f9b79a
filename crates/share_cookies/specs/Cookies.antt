-- The cookie of an address, a port and a viewer (our choice; the rule is RFC 9000, section 8.1).
use Rattle.std.specs.Prelude.{◌≡◌, ℕ, ◌/◌, ◌%◌, List, [], ◌∷◌, ◌++◌, take}
use Rattle.share_keys.specs.Hmac.{hmac}

-- the address, the port, highest byte first, and the viewer's number
abbrev pub cookie_text : (address : List ℕ) → (port who : ℕ) → List ℕ
cookie_text address port who = address ++ port / 256 ∷ port % 256 ∷ who ∷ []

-- the first 8 bytes of the HMAC by a secret
abbrev pub cookie_of : (secret address : List ℕ) → (port who : ℕ) → List ℕ
cookie_of secret address port who = take 8 (hmac secret (cookie_text address port who))

-- what a cookie is of is in its text
abbrev pub TextsTell : Type 0
TextsTell =
    (address other : List ℕ) (port port' who who' : ℕ)
    → cookie_text address port who ≡ cookie_text other port' who'
    → (address ≡ other) × (port ≡ port') × (who ≡ who')
