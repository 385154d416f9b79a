-- The scripts of nodes, stored in a table.
use Rattle.std.specs.Prelude.{ℕ, ◌≡◌, ◌==◌, Bool, true, false, List, Option, Some, None, slice_get}
use Rattle.std.specs.Option.{option_and_then}
use Rattle.script_running.specs.declared.run.Run.{Run}
use Rattle.script_running.specs.Running.{script_from}

-- the number at the place of a node
abbrev pub number_at : List (Option ℕ) → ℕ → Option ℕ
number_at numbers node = option_and_then (λ (k : Option ℕ). k) (slice_get numbers node)

-- the place of each node holds the number of its script, if it has one
abbrev pub IsTable : List (Option ℕ) → List Run → Type 0
IsTable numbers runs = (node : ℕ) → number_at numbers node ≡ script_from 0 runs node

-- the number, if there is one; otherwise k, if the place is that of the node
abbrev pub number_or : Option ℕ → Bool → ℕ → Option ℕ
number_or (Some n) is k = Some n
number_or None true k = Some k
number_or None false k = None

-- script k is noted at the place of its node, unless a script is noted there
abbrev pub IsNoted : List (Option ℕ) → List (Option ℕ) → ℕ → ℕ → Type 0
IsNoted old new node k = (i : ℕ)
    → number_at new i ≡ number_or (number_at old i) (node == i) k
