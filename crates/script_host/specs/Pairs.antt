-- Two lists compared place by place.
use Rattle.std.specs.Prelude.{ℕ, ◌<◌, List, slice_get, IsSomeAnd}

-- both lists have a place k, and P holds of the two items there
abbrev pub PairAt : {X Y : Type 0} → (X → Y → Type 0) → List X → List Y → ℕ → Type 0
PairAt P xs ys k = IsSomeAnd (slice_get xs k) (λ x. IsSomeAnd (slice_get ys k) (λ y. P x y))

-- P holds at each place below n
abbrev pub PairsBelow : {X Y : Type 0} → (X → Y → Type 0) → List X → List Y → ℕ → Type 0
PairsBelow P xs ys n = (j : ℕ) → j < n → PairAt P xs ys j
