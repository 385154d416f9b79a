-- Marks that cover 32 items each.
use Rattle.std.specs.Prelude.{◌≡◌, ◌≢◌, ℕ, ◌/◌, Bool, true, List, Some, slice_get}

-- what a mark says is true of each item that it covers
abbrev pub AreMarked : {X M : Type 0} → (X → M → Type 0) → List X → List M → Type 0
AreMarked {X} {M} says items marks = (i : ℕ) (x : X) (mark : M) → slice_get items i ≡ Some x
    → slice_get marks (i / 32) ≡ Some mark → says x mark

-- each item that a set mark covers is at rest
abbrev pub AreResting : {X : Type 0} → (X → Bool) → List X → List Bool → Type 0
AreResting {X} rests items marks =
    AreMarked (λ (x : X) (mark : Bool). mark ≡ true → rests x ≡ true) items marks

-- the items at other places are unchanged
abbrev pub AreOthers : {X : Type 0} → ℕ → List X → List X → Type 0
AreOthers place old new = (i : ℕ) → i ≢ place → slice_get new i ≡ slice_get old i
