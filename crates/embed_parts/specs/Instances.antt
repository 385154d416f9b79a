-- What a program sees of the line of an instance.
use Rattle.std.specs.Prelude.{◌≡◌, ◌⊎◌, ℕ}

-- the line was written, or memory ran out
abbrev pub TellsInstance : (found : ℕ) → (old status new : ℕ) → Type 0
TellsInstance found old status new =
    ((status ≡ 0) × (new ≡ found)) ⊎ ((status ≡ 5) × (new ≡ old))
