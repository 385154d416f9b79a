-- What an append of bytes to a log does.
use Rattle.std.specs.Prelude.{◌≡◌, ◌≢◌, ◌⊎◌, ℕ, ◌+◌, ◌==◌, Bool, true, false, List, [], ◌++◌, length, if◌then◌else◌, ⊤}
use Rattle.share_entries.specs.Entry.{EntryView}
use Rattle.embed_entries.specs.Appends.{append_text}
use Rattle.embed_entries.specs.Reading.{HasAnother, HasNone, StopsAt, begins_with}
use Rattle.share_store.specs.declared.fault.AppendFault.{AppendFault}
use Rattle.share_store.specs.declared.fault.AppendFault.TheVariants as append
use Rattle.embed_logs.specs.declared.fault.LogFileFault.{LogFileFault}
use Rattle.embed_logs.specs.declared.fault.LogFileFault.TheVariants.{NotEntries, InDoubt}

-- these bytes are those of these entries, after the ones that the log has
abbrev pub IsNext : (mark : List ℕ) → (known : List EntryView) → (bytes : List ℕ)
    → List EntryView → Type 0
IsNext mark known bytes more = bytes ≡ append_text mark (length known + 1) more

-- ---- bytes that aren't entries

-- after the mark, or where it isn't expected, other bytes than the next entries
abbrev pub IsOther : (first : ℕ) → List ℕ → Type 0
IsOther first lines =
    (lines ≡ []) ⊎ ((n : ℕ) × (StopsAt first lines n (HasAnother first)
    ⊎ StopsAt first lines n (HasNone first)))

-- the first entry of a log is after its mark
abbrev pub IsOtherAt : (mark : List ℕ) → (first : ℕ) → (bytes : List ℕ) → Type 0
IsOtherAt mark first bytes =
    ((first ≡ 1) × ((begins_with mark bytes ≡ false)
    ⊎ ((lines : List ℕ) × (bytes ≡ mark ++ lines) × IsOther first lines)))
    ⊎ ((first ≢ 1) × IsOther first bytes)

-- ---- storing

-- a log that refuses for these alone takes more appends
abbrev pub StaysOpen : AppendFault → (is_open : Type 0) → Type 0
StaysOpen append.Memory is_open = is_open
StaysOpen append.Full is_open = is_open
StaysOpen append.Taken is_open = ⊤
StaysOpen append.InDoubt is_open = ⊤

-- the fault of an append of entries of which this many were stored before
abbrev pub fault_after : (stored : ℕ) → AppendFault → AppendFault
fault_after stored fault = if stored == 0 then fault else append.InDoubt

-- there are the first of the entries more: none or all of them, or some
abbrev pub HasFirst : (old more new : List EntryView) → Type 0
HasFirst old more new =
    (stored rest : List EntryView) × (more ≡ stored ++ rest) × (new ≡ old ++ stored)

-- what entries that weren't all stored leave
abbrev pub FailsWith : AppendFault → (is_open : Type 0) → (old more new : List EntryView) → Type 0
FailsWith append.Memory is_open old more new = is_open × (new ≡ old)
FailsWith append.Full is_open old more new = is_open × (new ≡ old)
FailsWith append.Taken is_open old more new = HasFirst old more new
FailsWith append.InDoubt is_open old more new = HasFirst old more new

-- what entries that aren't all stored leave, and whether the log takes more
abbrev pub AddFails : AppendFault → (is_open : Bool) → (old more new : List EntryView) → Type 0
AddFails append.Memory is_open old more new = (is_open ≡ true) × (new ≡ old)
AddFails append.Full is_open old more new = (is_open ≡ true) × (new ≡ old)
AddFails append.Taken is_open old more new = (is_open ≡ false) × HasFirst old more new
AddFails append.InDoubt is_open old more new = (is_open ≡ false) × HasFirst old more new

-- the same, by the faults of a log in a file
abbrev pub NextFails : LogFileFault → (is_open : Bool) → (old more new : List EntryView) → Type 0
NextFails InDoubt is_open old more new = (is_open ≡ false) × HasFirst old more new
NextFails NotEntries is_open old more new = ⊥
NextFails _ is_open old more new = (is_open ≡ true) × (new ≡ old)

-- ---- appending

-- the log has the entries of these bytes, after those that it had
abbrev pub IsAppended : (mark : List ℕ) → (old : List EntryView) → (bytes : List ℕ)
    → (new : List EntryView) → Type 0
IsAppended mark old bytes new =
    (more : List EntryView) × IsNext mark old bytes more × (new ≡ old ++ more)

-- a log that was in doubt stays as it was; else it has the first of the entries
abbrev pub IsInDoubt : (mark : List ℕ) → (was_open : Bool) → (old : List EntryView)
    → (bytes : List ℕ) → (new : List EntryView) → Type 0
IsInDoubt mark was_open old bytes new =
    ((was_open ≡ false) × (new ≡ old))
    ⊎ ((more : List EntryView) × IsNext mark old bytes more × HasFirst old more new)

-- what an append that fails leaves, and why bytes are refused
abbrev pub AppendFails : (mark : List ℕ) → (was_open : Bool) → (old : List EntryView)
    → (bytes : List ℕ) → LogFileFault → (is_open : Bool) → (new : List EntryView) → Type 0
AppendFails mark was_open old bytes InDoubt is_open new =
    (is_open ≡ false) × IsInDoubt mark was_open old bytes new
AppendFails mark was_open old bytes NotEntries is_open new =
    (is_open ≡ true) × (new ≡ old) × IsOtherAt mark (length old + 1) bytes
AppendFails mark was_open old bytes _ is_open new = (is_open ≡ true) × (new ≡ old)
