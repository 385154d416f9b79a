-- The bytes that a host's program stores: entries, each after its number (our choice).
use Rattle.std.specs.Prelude.{◌≡◌, ◌⊎◌, ℕ, ◌+◌, ◌==◌, List, [], ◌∷◌, ◌++◌, if◌then◌else◌}
use Rattle.std.specs.Int.{w64}
use Rattle.byte_codec.specs.Codec.{number_text}
use Rattle.share_entries.specs.Entry.{EntryView, entry_codec}

-- entries after their numbers, of which the first is n
abbrev pub lines_from : (n : ℕ) → List EntryView → List ℕ
lines_from n [] = []
lines_from n (e ∷ es) = (number_text w64 n ++ entry_codec.write e) ++ lines_from (n + 1) es

-- the mark of the scene before the first entry of a log
abbrev pub front_of : (mark : List ℕ) → (first : ℕ) → List ℕ
front_of mark first = if first == 1 then mark else []

-- the bytes of entries that are appended together; the first has this number
abbrev pub append_text : (mark : List ℕ) → (first : ℕ) → List EntryView → List ℕ
append_text mark first [] = []
append_text mark first (e ∷ es) = front_of mark first ++ lines_from first (e ∷ es)

-- the bytes of a log: those of its appends, one after another
abbrev pub log_text : (mark : List ℕ) → List EntryView → List ℕ
log_text mark entries = append_text mark 1 entries

-- the bytes of a log, with or without the mark if it has no entries
abbrev pub IsLogText : (mark bytes : List ℕ) → List EntryView → Type 0
IsLogText mark bytes entries =
    ((bytes ≡ []) × (entries ≡ [])) ⊎ (bytes ≡ mark ++ lines_from 1 entries)
