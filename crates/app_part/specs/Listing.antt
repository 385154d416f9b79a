-- The lines on all that was left out, and how much that was (our choice).
use Rattle.std.specs.Prelude.{ℕ, ◌+◌, ◌-◌, ◌^◌, List, [], ◌∷◌, ◌++◌, Bool, length, count_by, codes, decimal, min}
use Rattle.std.specs.List.{flat_map}
use Rattle.classic_lenient.specs.declared.scan.Unread.{Unread}
use Rattle.classic_part.specs.declared.notes.Note.{Note}
use Rattle.app_part.specs.declared.part.ScenePart.{ScenePart}
use Rattle.app_part.specs.Told.{note_line, unread_line}
use Rattle.app_part.specs.Words.{is_grouped}

abbrev line_feed : ℕ
line_feed = 10

-- a node became a group
abbrev pub is_group : Note → Bool
is_group note = is_grouped note.kind

-- `N left out, N read as groups`
unfoldable pub counts : ℕ → ℕ → List ℕ
counts left groups =
    decimal left ++ codes " left out, " ++ decimal groups
    ++ (codes " read as groups" ++ line_feed ∷ [])

abbrev pub last : List Unread → List Note → List ℕ
last unread notes =
    counts (min (length unread + (length notes - count_by is_group notes)) (2 ^ 64 - 1))
    (count_by is_group notes)

-- a line for each thing that was left out, and the line of counts
abbrev pub told_text : ScenePart → List ℕ
told_text part =
    flat_map (unread_line part.source.items part.lines.items) part.unread
    ++ flat_map (note_line part.lines.items part.blames) part.left ++ last part.unread part.left
