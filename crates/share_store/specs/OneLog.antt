-- The log is one list: what each of its handles knows is a prefix of the list that the log is. What
-- one handle stored or read stays there, at its number, for every other.
use Rattle.std.specs.Prelude.{◌≡◌, ℕ, List, ◌++◌, slice_get, Some}
use Rattle.share_entries.specs.Entry.{EntryView}

-- `longer` is `known` and then zero or more entries
abbrev pub Begins : (known longer : List EntryView) → Type 0
Begins known longer = (more : List EntryView) × (longer ≡ known ++ more)

-- what handles know of the log that is this list
abbrev pub AreOfOneLog : (knowns : List (List EntryView)) → (log : List EntryView) → Type 0
AreOfOneLog knowns log =
    (handle : ℕ) (known : List EntryView) → slice_get knowns handle ≡ Some known → Begins known log

-- the largest number of entries that are appended at once: they fit into one frame of a file
abbrev pub max_entries : ℕ
max_entries = 977

-- whatever a crash leaves has these entries, at their numbers
abbrev pub Last : (may_leave : List EntryView → Type 0) → List EntryView → Type 0
Last may_leave entries = (left : List EntryView) → may_leave left → Begins entries left
