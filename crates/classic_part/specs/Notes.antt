-- What one round of leaving out says of a tree, and what the next round knows by it.
use Rattle.std.specs.Prelude.{ℕ, Bool, true, false, ◌&&◌, ◌==◌, List, Option, Some, None}
use Rattle.std.specs.List.{list_any}
use Rattle.std.specs.Str.{bytes_eq}
use Rattle.classic_part.specs.declared.notes.Note.{Note}
use Rattle.classic_part.specs.declared.notes.NoteKind.{NoteKind}
use Rattle.classic_part.specs.declared.notes.NoteKind.TheVariants.{Named, Declared}
use Rattle.classic_part.specs.declared.knowing.Known.{Known}

abbrev pub note : NoteKind → ℕ → List ℕ → List ℕ → Note
note kind line name field = record { kind = kind; line = line; name = name; field = field }

-- something was left out or changed
abbrev pub is_left_out : NoteKind → Bool
is_left_out Named = false
is_left_out Declared = false
is_left_out _ = true

abbrev pub is_named : NoteKind → Bool
is_named Named = true
is_named _ = false

abbrev pub is_declared : NoteKind → Bool
is_declared Declared = true
is_declared _ = false

-- the note says that a node of that name stays
abbrev pub names : List ℕ → Note → Bool
names name note = is_named note.kind && bytes_eq note.name name

-- the note says that a prototype of that name stays
abbrev pub declares : List ℕ → Note → Bool
declares name note = is_declared note.kind && bytes_eq note.name name

abbrev pub name_in : List ℕ → Option (List Note) → Bool
name_in name None = true
name_in name (Some notes) = list_any (names name) notes

-- a node of that name is there; in the first round any name is taken for one
abbrev pub knows_name : Known → List ℕ → Bool
knows_name known name = name_in name known.notes

-- the line is one of those that are refused
abbrev pub refused_in : List ℕ → ℕ → Bool
refused_in refused line = list_any (λ r. r == line) refused

-- what begins on that line is to be left out
abbrev pub refuses : Known → ℕ → Bool
refuses known line = refused_in known.refused line
