-- What a host has heard of its viewers: the highest number that each has asked from.
use Rattle.std.specs.Prelude.{ℕ, ◌==◌, List, [], ◌∷◌, get_or, max, min, nat_lt, replicate, slice_set}
use Rattle.std.specs.Prelude.{if◌then◌else◌, count_by, Option, Some, None}
use Rattle.x3d_values.specs.Ranges.{max_viewers}

-- no viewer was heard of; the number of a viewer that hasn't asked is 0
abbrev pub nobody : List ℕ
nobody = replicate max_viewers 0

-- viewer `who` asks for the inputs from number `next` on
abbrev pub hear : List ℕ → (who next : ℕ) → List ℕ
hear heard who next =
    if nat_lt who max_viewers then slice_set heard who (max (get_or heard who 0) next) else heard

-- the number of a place, if its viewer has asked
abbrev pub number_of : (next : ℕ) → Option ℕ
number_of next = if next == 0 then None else Some next

-- the highest number that viewer `who` has asked from, if it was heard of
abbrev pub asked : List ℕ → (who : ℕ) → Option ℕ
asked heard who = number_of (get_or heard who 0)

abbrev pub min_with : (next : ℕ) → Option ℕ → ℕ
min_with next None = next
min_with next (Some other) = min other next

-- the lower of `next` and `others`; a viewer that hasn't asked has number 0, which doesn't count
abbrev pub lower : (next : ℕ) → Option ℕ → Option ℕ
lower next others = if next == 0 then others else Some (min_with next others)

-- the lowest number that a viewer has asked from
abbrev pub lowest : List ℕ → Option ℕ
lowest [] = None
lowest (next ∷ others) = lower next (lowest others)

-- how many viewers were heard of
abbrev pub heard_count : List ℕ → ℕ
heard_count heard = count_by (λ next. nat_lt 0 next) heard
