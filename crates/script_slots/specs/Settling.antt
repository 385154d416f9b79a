-- Which scripts are to be settled in a timestamp (ISO/IEC 19775-1, Script: events processed; the
-- order is our choice).
use Rattle.std.specs.Prelude.{ℕ, ◌++◌, ◌==◌, ◌&&◌, Bool, true, not, List, [], ◌∷◌, Option, if◌then◌else◌}
use Rattle.std.specs.List.{find, list_any, range_with_len}

-- the number of scripts, which are numbered from 0; those that have received an event in a
-- timestamp, each once; and those that were settled
pub record DueScriptsView : Type 0 where
  pub count : ℕ
  pub received : List ℕ
  pub settled : List ℕ

-- none of `count` scripts has received an event
abbrev pub unsettled : ℕ → DueScriptsView
unsettled count = record { count = count; received = []; settled = [] }

abbrev pub is_among : List ℕ → ℕ → Bool
is_among numbers k = list_any (λ n. n == k) numbers

-- the script has received an event and isn't settled
abbrev pub is_due : DueScriptsView → ℕ → Bool
is_due s k = is_among s.received k && not (is_among s.settled k)

-- the lowest script that is due
unfoldable pub lowest_due : DueScriptsView → Option ℕ
lowest_due s = find (is_due s) (range_with_len 0 s.count)

-- the scripts that received an event, with script k among them
abbrev pub noted : List ℕ → ℕ → List ℕ
noted received k = if is_among received k then received else received ++ k ∷ []

abbrev pub with_received : DueScriptsView → ℕ → DueScriptsView
with_received s k = record s { received = noted s.received k }

-- a script was settled
abbrev pub with_settled : DueScriptsView → ℕ → DueScriptsView
with_settled s k = record s { settled = s.settled ++ k ∷ [] }

-- the numbers are different from each other
abbrev pub all_differ : List ℕ → Bool
all_differ [] = true
all_differ (k ∷ ks) = not (is_among ks k) && all_differ ks
