-- The numbers of what was left out: for each thing its line and its kind (our choice).
use Rattle.std.specs.Prelude.{ℕ, ℤ, pos, List, [], ◌∷◌, ◌++◌}
use Rattle.std.specs.List.{flat_map}
use Rattle.classic_lenient.specs.declared.scan.Unread.{Unread}
use Rattle.classic_lenient.specs.declared.scan.UnreadKind.{UnreadKind}
use Rattle.classic_lenient.specs.declared.scan.UnreadKind.TheVariants as unread
use Rattle.classic_part.specs.declared.notes.Note.{Note}
use Rattle.classic_part.specs.declared.notes.NoteKind.{NoteKind}
use Rattle.classic_part.specs.declared.notes.NoteKind.TheVariants as kind
use Rattle.app_part.specs.Apart.{line_at}
use Rattle.app_part.specs.declared.part.ScenePart.{ScenePart}

-- a list has no note on what stays
abbrev pub note_number : NoteKind → ℕ
note_number kind.Node = 0
note_number kind.Grouped = 1
note_number kind.Field = 2
note_number kind.Turned = 3
note_number kind.Use = 4
note_number kind.Route = 5
note_number kind.Proto = 6
note_number kind.Refused = 7
note_number kind.Named = 13
note_number kind.Declared = 13

abbrev pub unread_number : UnreadKind → ℕ
unread_number unread.ExternProto = 8
unread_number unread.Import = 9
unread_number unread.Export = 10
unread_number unread.Unit = 11
unread_number unread.Declaration = 12

abbrev pub note_pair : List ℕ → Note → List ℤ
note_pair lines note = pos (line_at lines note.line) ∷ pos (note_number note.kind) ∷ []

abbrev pub unread_pair : List ℕ → Unread → List ℤ
unread_pair lines one = pos (line_at lines one.line) ∷ pos (unread_number one.kind) ∷ []

-- line and kind of each thing that was left out, in the order of the lines on them
abbrev pub left_numbers : ScenePart → List ℤ
left_numbers part =
    flat_map (unread_pair part.lines.items) part.unread
    ++ flat_map (note_pair part.lines.items) part.left
