-- The contents of a string token, read from left to right (ISO/IEC 19776-2, SFString).
use Rattle.std.specs.Prelude.{ℕ, Bool, true, false, ◌==◌, ◌||◌, ◌&&◌, List, [], ◌∷◌, ◌++◌, length, Option, Some, None, if◌then◌else◌}
use Rattle.classic_bytes.specs.Strings.{closing}

-- the bytes that a backslash and the byte after it mean: the backslash is dropped before a quote or
-- another backslash, and kept before any other byte (our choice)
unfoldable pub escape : ℕ → List ℕ
escape b = if b == 34 || b == 92 then b ∷ [] else 92 ∷ b ∷ []

-- the contents up to the quote that closes the string; the flag says whether a backslash comes
-- before
unfoldable pub held : Bool → List ℕ → List ℕ
held escaped [] = []
held true (b ∷ bs) = escape b ++ held false bs
held false (b ∷ bs) = if b == 34 then [] else (if b == 92 then held true bs else b ∷ held false bs)

-- the contents after the opening quote
unfoldable pub unquoted : List ℕ → List ℕ
unquoted [] = []
unquoted (b ∷ bs) = if b == 34 then held false bs else []

-- the closing quote is the last of n bytes
abbrev pub ends_at : Option ℕ → ℕ → Bool
ends_at None n = false
ends_at (Some m) n = m == n

-- a quote, and bytes after it of which the last is the quote that closes the string
unfoldable pub is_quoted : List ℕ → Bool
is_quoted [] = false
is_quoted (b ∷ bs) = b == 34 && ends_at (closing false bs) (length bs)
