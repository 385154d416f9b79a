-- What the stage of a host forgets: the lines of its trace of all inputs but the last ones.
use Rattle.std.specs.Prelude.{ℕ, ◌+◌, ◌-◌, Bool, Option, None, Some, nat_lt, if◌then◌else◌}
use Rattle.x3d_values.specs.Ranges.{max_inputs}
use Rattle.cascade_core.specs.Forgetting.{forgotten}
use Rattle.cascade_core.specs.Held.{StageView, applied_of, holding}
use Rattle.share_keeping.specs.declared.forgetting.Forgetting.{Forgetting}

-- the stage without the lines of all inputs but the last n; no log has more than the largest number
-- of inputs, and a stage beyond that stays as it is
abbrev pub stage_but : (last : ℕ) → StageView → StageView
stage_but last s =
    if nat_lt max_inputs (applied_of s.held)
    then s
    else holding s (forgotten (applied_of s.held + 1 - last) s.held)

-- without a number it keeps all
abbrev pub forgot_as : (forget : Option ℕ) → StageView → StageView
forgot_as None s = s
forgot_as (Some last) s = stage_but last s

-- ---- in portions

-- how many inputs are applied from one time that lines are forgotten to the next
abbrev pub portion_of : (forget : Option ℕ) → ℕ
portion_of None = 64
portion_of (Some last) = if nat_lt last 64 then 64 else last

-- lines are forgotten after this number of inputs, and then again after a portion
abbrev pub begun : (forget : Option ℕ) → (applied : ℕ) → Forgetting
begun forget applied = record { last = forget; since = applied }

-- the portion isn't applied yet
abbrev pub is_early : Forgetting → (applied : ℕ) → Bool
is_early f applied = nat_lt applied (f.since + portion_of f.last)

-- the stage, and when it is due again, once this may be due
abbrev pub forgot_if_due : Forgetting → StageView → StageView
forgot_if_due f s = if is_early f (applied_of s.held) then s else forgot_as f.last s

abbrev pub due_next : Forgetting → StageView → Forgetting
due_next f s = if is_early f (applied_of s.held) then f else begun f.last (applied_of s.held)
