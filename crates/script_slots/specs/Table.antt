-- How the scripts that are due are stored: a flag for each script, and an ordered set of the
-- numbers that are due.
use Rattle.std.specs.Prelude.{ℕ, Bool, true, false, ◌≡◌, List, slice_index_or}
use Rattle.std.specs.BTreeSet.{BTreeSet, contains}
use Rattle.std.specs.Ordering.{nat_cmp}
use Rattle.script_slots.specs.Settling.{DueScriptsView, is_among, is_due}

-- the flag of a script is set if the script is among these
abbrev pub AreFlags : List Bool → List ℕ → Type 0
AreFlags flags numbers = (k : ℕ) → slice_index_or flags k false ≡ is_among numbers k

-- the set holds the scripts that are due
abbrev pub HoldsDue : BTreeSet ℕ → DueScriptsView → Type 0
HoldsDue due s = (k : ℕ) → contains nat_cmp due k ≡ is_due s k

-- the flags are those of the scripts that received an event, the set holds the scripts that are
-- due, and each settled script had received an event
pub record IsTable (flags : List Bool) (due : BTreeSet ℕ) (s : DueScriptsView) : Type 0 where
  pub flagged : AreFlags flags s.received
  pub held : HoldsDue due s
  pub before : (k : ℕ) → is_among s.settled k ≡ true → is_among s.received k ≡ true
