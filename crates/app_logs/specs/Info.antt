-- What a log has, in lines (our choice).
use Rattle.std.specs.Prelude.{ℕ, zero, suc, ℤ, ◌==◌, Bool, true, false, List, [], ◌∷◌, ◌++◌, ◌+◌, Option, None, Some, codes, count_by, decimal, length}
use Rattle.hex.specs.Hex.{encode_lower}
use Rattle.x3d_numerals.specs.NumberText.{number_text}
use Rattle.share_entries.specs.declared.entry.Source.{Source}
use Rattle.share_entries.specs.declared.entry.Source.TheVariants.{Clock, Offer}
use Rattle.share_entries.specs.declared.head.Head.{Head}
use Rattle.share_entries.specs.Base.{BaseView}
use Rattle.share_entries.specs.Entry.{EntryView}
use Rattle.app_logs.specs.Clocks.{last_of}

-- a name and a number
abbrev pub number_line : (name : List ℕ) → ℕ → List ℕ
number_line name n = name ++ decimal n ++ 10 ∷ []

-- a name and bytes, as hexadecimal digits
abbrev pub hex_line : (name bytes : List ℕ) → List ℕ
hex_line name bytes = name ++ encode_lower bytes ++ 10 ∷ []

-- a name and a time, in seconds
abbrev pub time_line : (name : List ℕ) → ℤ → List ℕ
time_line name time = name ++ number_text time ++ 10 ∷ []

-- ---- the entries

abbrev pub is_clock_source : Source → Bool
is_clock_source Clock = true
is_clock_source (Offer o) = false

abbrev pub is_clock : EntryView → Bool
is_clock e = is_clock_source e.source

abbrev pub clock_count : List EntryView → ℕ
clock_count entries = count_by is_clock entries

abbrev pub is_source_of : (who : ℕ) → Source → Bool
is_source_of who Clock = false
is_source_of who (Offer o) = o.pointer.who == who

-- the viewer has offered the entry
abbrev pub is_offer_of : (who : ℕ) → EntryView → Bool
is_offer_of who e = is_source_of who e.source

abbrev pub offer_count : (who : ℕ) → List EntryView → ℕ
offer_count who entries = count_by (is_offer_of who) entries

-- `viewer V N`
abbrev pub offer_line : (who : ℕ) → List EntryView → List ℕ
offer_line who entries =
    codes "viewer " ++ decimal who ++ number_line (codes " ") (offer_count who entries)

-- the lines of the first viewers, in order
abbrev pub offers_text : (viewers : ℕ) → List EntryView → List ℕ
offers_text zero entries = []
offers_text (suc n) entries = offers_text n entries ++ offer_line n entries

-- the times of the first and the last entry, if there is one
abbrev pub times_text : List EntryView → List ℕ
times_text [] = []
times_text (e ∷ es) =
    time_line (codes "first ") e.time ++ time_line (codes "last ") (last_of (e ∷ es))

-- ---- the log

abbrev pub head_text : Head → List ℕ
head_text head =
    number_line (codes "viewers ") head.viewers ++ hex_line (codes "scene ") head.mark
    ++ hex_line (codes "run ") head.run

-- the number of the last entry below the base, if the log has one
abbrev pub base_line : Option BaseView → List ℕ
base_line None = []
base_line (Some base) = number_line (codes "base ") base.number

abbrev pub below_of : Option BaseView → ℕ
below_of None = 0
below_of (Some base) = base.number

-- the size of the file, how much of it is of an append that wasn't finished, how many inputs there
-- are with those below the base, and how many of these entries are clocks
abbrev pub sizes_text : (size cut below : ℕ) → List EntryView → List ℕ
sizes_text size cut below entries =
    number_line (codes "bytes ") size ++ number_line (codes "cut ") cut
    ++ number_line (codes "inputs ") (below + length entries)
    ++ number_line (codes "clocks ") (clock_count entries)

-- on a log, and on these entries, the first after its base
abbrev pub info_text : (size cut : ℕ) → Head → Option BaseView → List EntryView → List ℕ
info_text size cut head base entries =
    head_text head ++ base_line base ++ sizes_text size cut (below_of base) entries
    ++ times_text entries ++ offers_text head.viewers entries
