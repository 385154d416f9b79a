-- The result of one read.
use Rattle.std.specs.Prelude.{ℕ, ◌<◌, ◌≤◌, Bool, true, false, List, take, Option, ⊤}
use Rattle.std.specs.Io.KnownBytes.{Consumes, IsAtEnd, Keeps}
use Rattle.app_program.specs.declared.counted.Came.{Came}
use Rattle.app_program.specs.declared.counted.Came.TheVariants as came

abbrev pub is_failed : Came → Bool
is_failed came.Failed = true
is_failed _ = false

abbrev pub is_end : Came → Bool
is_end came.End = true
is_end _ = false

-- a reader went from state old to state new and gave the first n of these bytes, or it was at its
-- end. An interrupted or failed read gave no bytes
abbrev pub Comes : Option (List ℕ) → Option (List ℕ) → List ℕ → Came → Type 0
Comes old new part (came.Bytes n) = Consumes old new (take n part)
Comes old new part came.End = Keeps old new × IsAtEnd new
Comes old new part _ = Keeps old new

-- the read gave at least one byte, and no more than there is room for
abbrev pub IsWithin : ℕ → Came → Type 0
IsWithin room (came.Bytes n) = (0 < n) × (n ≤ room)
IsWithin room _ = ⊤
