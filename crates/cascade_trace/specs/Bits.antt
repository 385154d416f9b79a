-- One bit for each output, set if the output has sent.
use Rattle.std.specs.Prelude.{ℕ, Bool, true, ◌≡◌, ◌+◌, ◌-◌, ◌≤◌, ◌<◌, nat_lt, List, Option, Some, None, slice_get, slice_index, length, if◌then◌else◌}
use Rattle.scene_core.specs.declared.scene.End.{End}
use Rattle.cascade_trace.specs.Ends.{has_sent}

-- the place of a field, between where its node's places start and where the next node's start
abbrev pub place_in : ℕ → Option ℕ → Option ℕ → Option ℕ
place_in field (Some start) (Some next) =
    if nat_lt field (next - start) then Some (start + field) else None
place_in field (Some start) None = None
place_in field None next = None

-- the place of an end's bit; `starts` has the start of each node, followed by the end of the last
-- node
unfoldable pub place_of : List ℕ → End → Option ℕ
place_of starts e = place_in e.field (slice_get starts e.node) (slice_get starts (e.node + 1))

-- no start is above a later one, or above the number of bits
pub record IsRising (starts : List ℕ) (count : ℕ) : Type 0 where
  pub rising : (i j : ℕ) → i ≤ j → j < length starts → slice_index starts i ≤ slice_index starts j
  pub within : (i : ℕ) → i < length starts → slice_index starts i ≤ count

-- the bit of an output says whether it is among `ends`
abbrev pub IsMarked : List ℕ → List Bool → List End → Type 0
IsMarked starts bits ends = (e : End) (p : ℕ) → place_of starts e ≡ Some p
    → slice_get bits p ≡ Some (has_sent ends e)

-- only outputs among `ends` are marked
abbrev pub MarksOnly : List ℕ → List Bool → List End → Type 0
MarksOnly starts bits ends = (e : End) (p : ℕ) → place_of starts e ≡ Some p
    → slice_get bits p ≡ Some true → has_sent ends e ≡ true

-- each end that has a place has its own bit, which is set if the end is among `ends`
pub record IsTable (starts : List ℕ) (bits : List Bool) (ends : List End) : Type 0 where
  pub places : IsRising starts (length bits)
  pub marked : IsMarked starts bits ends
