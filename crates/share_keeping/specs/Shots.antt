-- The snapshot that is given: its bytes, and how many inputs its world has.
use Rattle.std.specs.Prelude.{◌≡◌, ℕ, ◌+◌, Bool, false, List, nat_lt, Option, None, Some}
use Rattle.cascade_core.specs.Held.{IfRunning, IfSpoiled, StageView, applied_of}
use Rattle.snapshot_core.specs.Shot.{shot}
use Rattle.share_core.specs.Pieces.{count_of}

pub record ShotView : Type 0 where
  pub bytes : List ℕ
  pub inputs : ℕ

-- how many pieces these bytes have
abbrev pub count_or_none : Option ℕ → ℕ
count_or_none None = 0
count_or_none (Some n) = n

abbrev pub pieces_in : (bytes : List ℕ) → ℕ
pieces_in bytes = count_or_none (count_of bytes)

-- the snapshot of boot 1 of a stage
abbrev pub IsTaken : (mark : List ℕ) → StageView → ShotView → Type 0
IsTaken mark stage s =
    IfSpoiled stage.held ⊥
    × IfRunning stage.held (λ w. s.bytes ≡ shot mark 1 stage.scene w)
    × (s.inputs ≡ applied_of stage.held)

-- a viewer that begins with the snapshot asks for an input that a host doesn't have, whose first
-- one is `floor`
abbrev pub is_too_old : Option ShotView → (floor : ℕ) → Bool
is_too_old None floor = false
is_too_old (Some s) floor = nat_lt (s.inputs + 1) floor
