-- What a port records of its traffic.
use Rattle.std.specs.Prelude.{◌≡◌, ℕ, ◌+◌, ◌-◌, ◌^◌, min, List, ◌++◌, Option, Some, None, ⊤}
use Rattle.std.specs.Prelude.{Result, Ok, Err}
use Rattle.share_turns.specs.declared.traffic.Traffic.{Traffic}

-- the number of bytes of a datagram that are received: one more than a packet of version 2 has room
-- for
abbrev pub max_received : ℕ
max_received = 289

-- the record grows by this traffic; nothing is claimed of a port that keeps no record
abbrev pub Grows : Option (List Traffic) → Option (List Traffic) → List Traffic → Type 0
Grows None new passed = ⊤
Grows (Some before) None passed = ⊥
Grows (Some before) (Some after) passed = after ≡ before ++ passed

-- one more failure, up to 2^64 - 1
abbrev pub one_more : ℕ → ℕ
one_more n = min (n + 1) (2 ^ 64 - 1)

-- the number of failures after a send or a receive with this answer
abbrev pub counted : {A E : Type 0} → Result A E → ℕ → ℕ
counted (Ok a) n = n
counted (Err fault) n = one_more n

-- what a port has recorded, if it keeps a record, and how many milliseconds its rests took
pub record Passed : Type 0 where
  pub told : Option (List Traffic)
  pub rested : ℕ

abbrev pub passed : Option (List Traffic) → (rested : ℕ) → Passed
passed told rested = record { told = told; rested = rested }
