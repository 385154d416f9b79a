use Rattle.std.proofs.Common.{◌≡◌, ℕ, ◌+◌, ◌<◌, None, length, take, get_or}
use Rattle.std.specs.Option.{option_copied}
use Rattle.scene_core.specs.Parts.{given}
use Rattle.scene_core.proofs.given.all_given.Given as goal

-- what the fields so far give
abbrev pub invariant-loop-field : goal.invariant-loop-field
invariant-loop-field l =
    (length l.table.items ≡ l.count)
    × ((k : ℕ) → k < l.count → option_copied (get_or l.table.items k None) ≡ given (take l.field-index l.fields) (l.number + k))
