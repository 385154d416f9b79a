-- The places of the tokens in a text.
use Rattle.std.specs.Prelude.{ℕ, ◌≤◌, ◌<◌, List, [], ◌∷◌, length, Bool, true, false, not, ◌&&◌, ◌==◌, IsTrue, slice_range, if◌then◌else◌}
use Rattle.classic_lex.specs.declared.token.Token.{Token}
use Rattle.classic_bytes.specs.Bytes.{is_space, is_line_end}

-- only white space and comments, where the last comment has ended; the flag says whether the first
-- byte is inside a comment
unfoldable pub is_gap : Bool → List ℕ → Bool
is_gap comment [] = not comment
is_gap true (b ∷ bs) = is_gap (not (is_line_end b)) bs
is_gap false (b ∷ bs) = if b == 35 then is_gap true bs else is_space b && is_gap false bs

-- from this byte on, the tokens are in the text, in order and without overlap; each has a byte or
-- more, with only a gap before it
abbrev pub AreSpans : List ℕ → ℕ → List Token → Type 0
AreSpans text from [] = from ≤ length text
AreSpans text from (t ∷ ts) = (from ≤ t.start) × (t.start < t.end)
    × IsTrue (is_gap false (slice_range text from t.start)) × AreSpans text t.end ts
