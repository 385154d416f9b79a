-- Which of the scripts that a world asks for have a known kind.
use Rattle.std.specs.Prelude.{◌≢◌, ℕ, ◌<◌, List, slice_get, IsSomeAnd, None}
use Rattle.x3d_values.specs.declared.script.ScriptSpec.{ScriptSpec}

-- the kinds of the first n scripts are known
abbrev pub KnownBelow : List ScriptSpec → ℕ → Type 0
KnownBelow specs n = (j : ℕ) → j < n → IsSomeAnd (slice_get specs j) (λ s. s.kind ≢ None)
