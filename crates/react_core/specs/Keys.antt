-- The keys of interpolators and sequencers (ISO/IEC 19775-1, interpolation and event utilities).
use Rattle.std.specs.Prelude.{ℕ, ◌-◌, ℤ, pos, int_le, Bool, true, ◌&&◌, List, [], ◌∷◌, Option, Some, None, ◌<◌, ◌≤ℤ◌, ◌<ℤ◌, ◌==◌, not, length, slice_index_or, count_by, if◌then◌else◌}

-- no key is below `low` or below the previous one
abbrev pub rise_from : ℤ → List ℤ → Bool
rise_from low [] = true
rise_from low (key ∷ others) = int_le low key && rise_from key others

-- no key is below the previous one
abbrev pub are_rising : List ℤ → Bool
are_rising [] = true
are_rising (key ∷ others) = rise_from key others

-- the number of keys that aren't above the fraction
abbrev pub reached : List ℤ → ℤ → ℕ
reached keys fraction = count_by (λ key. int_le key fraction) keys

-- there are keys, and none is below the previous one
abbrev pub have_steps : List ℤ → Bool
have_steps keys = not (length keys == 0) && are_rising keys

-- for such keys, the index of the last one that isn't above the fraction, or 0 if there is none
unfoldable pub step_of : List ℤ → ℤ → Option ℕ
step_of keys fraction = if have_steps keys then Some (reached keys fraction - 1) else None

-- all keys after this index are above the fraction; the key at the index is above it only if the
-- index is 0
pub record IsKeyAt (keys : List ℤ) (fraction : ℤ) (at : ℕ) : Type 0 where
  pub below : at < length keys
  pub is_reached : 0 < at → slice_index_or keys at (pos 0) ≤ℤ fraction
  pub is_last : (k : ℕ) → at < k → k < length keys → fraction <ℤ slice_index_or keys k (pos 0)
