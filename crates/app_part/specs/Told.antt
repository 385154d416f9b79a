-- The line on one thing that was left out (our choice).
use Rattle.std.specs.Prelude.{ℕ, List, [], ◌∷◌, ◌++◌, ◌==◌, codes, decimal, if◌then◌else◌}
use Rattle.classic_lenient.specs.Pieces.{bytes_at}
use Rattle.classic_lenient.specs.declared.scan.Unread.{Unread}
use Rattle.classic_part.specs.declared.notes.Note.{Note}
use Rattle.scene_faults.specs.Blame.{reason_name}
use Rattle.scene_faults.specs.declared.blame.Blame.{Blame}
use Rattle.app_part.specs.Apart.{line_at}
use Rattle.app_part.specs.Words.{before_name, after_name, before_unread, after_unread, is_refused}

abbrev line_feed : List ℕ
line_feed = 10 ∷ []

-- `line N: `
unfoldable pub head : ℕ → List ℕ
head line = codes "line " ++ decimal line ++ codes ": "

-- the field that a node was in, if it was in one
abbrev pub in_field : List ℕ → List ℕ
in_field [] = []
in_field (c ∷ cs) = codes " (field " ++ (c ∷ cs) ++ codes ")"

-- the name of the first fault at a place
abbrev pub reason_of : List Blame → ℕ → List ℕ
reason_of [] at = []
reason_of (blame ∷ others) at =
    if blame.line == at then reason_name blame.reason else reason_of others at

-- the fault for which something was left out
abbrev pub reason : Note → List Blame → List ℕ
reason note blames = if is_refused note.kind then reason_of blames note.line else []

abbrev pub words : Note → List ℕ
words note = before_name note.kind ++ note.name ++ after_name note.kind

abbrev pub ending : Note → List Blame → List ℕ
ending note blames = reason note blames ++ in_field note.field ++ line_feed

-- `line 12: node Teapot left out (field geometry)`, `line 40: ROUTE left out: SFRotation`
unfoldable pub note_line : List ℕ → List Blame → Note → List ℕ
note_line lines blames note =
    head (line_at lines note.line) ++ words note ++ ending note blames

abbrev pub unread_words : Unread → List ℕ → List ℕ
unread_words unread name = before_unread unread.kind ++ name ++ after_unread unread.kind

-- `line 3: EXTERNPROTO Lamp left out`
unfoldable pub unread_line : List ℕ → List ℕ → Unread → List ℕ
unread_line source lines unread =
    head (line_at lines unread.line)
    ++ unread_words unread (bytes_at source unread.name_start unread.name_end) ++ line_feed
