-- Inputs that a world accepts one after another.
use Rattle.std.specs.Prelude.{◌≡◌, ℕ, ℤ, ◌+◌, pos, ◌<ℤ◌, List, [], ◌∷◌, ⊤}
use Rattle.x3d_values.specs.Stamp.{StampedView}

-- the inputs follow an input of this number and time: each has the next number and a later time
abbrev pub Follow : ℕ → ℤ → List StampedView → Type 0
Follow number time [] = ⊤
Follow number time (s ∷ rest) = (s.number ≡ number + 1) × (time <ℤ s.time)
    × Follow s.number s.time rest

-- the inputs are numbered from 1, and each is later than the one before; the first is later than 0
abbrev pub AreInOrder : List StampedView → Type 0
AreInOrder inputs = Follow 0 (pos 0) inputs
