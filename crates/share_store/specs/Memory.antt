-- A log in memory: one list, and how far each of its handles has read.
use Rattle.std.specs.Prelude.{◌≡◌, ◌⊎◌, ◌++◌, ℕ, Bool, false, List, map, take, slice_get, Option, None, Some, Result, IsTrue, IsErrOf, OnOk, OnErr}
use Rattle.share_entries.specs.Entry.{EntryView}
use Rattle.share_store.specs.OneLog.{Begins}
use Rattle.share_store.specs.declared.fault.AppendFault.{AppendFault}
use Rattle.share_store.specs.declared.fault.AppendFault.TheVariants.{Taken, InDoubt, Memory, Full}
use Rattle.share_store.specs.declared.memory.Outcome.{Outcome}
use Rattle.share_store.specs.declared.memory.Standing.{Standing}

pub record MemoryView : Type 0 where
  pub entries : List EntryView
  pub handles : List Standing
  pub appends : ℕ
  pub plan : List Outcome

-- the entries that a handle has read
abbrev pub read_by : List EntryView → Option Standing → List EntryView
read_by entries None = take 0 entries
read_by entries (Some s) = take s.known entries

abbrev pub known_by : MemoryView → ℕ → List EntryView
known_by log number = read_by log.entries (slice_get log.handles number)

abbrev pub stands_open : Option Standing → Bool
stands_open None = false
stands_open (Some s) = s.is_open

abbrev pub is_open_by : MemoryView → ℕ → Bool
is_open_by log number = stands_open (slice_get log.handles number)

-- what all handles know
abbrev pub knowns_of : MemoryView → List (List EntryView)
knowns_of log = map (λ s. take s.known log.entries) log.handles

-- an append by a handle that knows all entries, or not all
pub record IsAppend (number : ℕ) (entries : List EntryView) (answer : Result
    (Unit {0}) AppendFault) (old new : MemoryView) : Type 0 where
  pub stored : OnOk answer (known_by new number ≡ known_by old number ++ entries)
  pub all : OnOk answer (new.entries ≡ known_by new number)
  pub standing : OnOk answer (IsTrue (is_open_by new number))
  pub grows : Begins old.entries new.entries
  pub refused : OnErr answer (known_by new number ≡ known_by old number)
  pub closed : IsErrOf answer Taken ⊎ IsErrOf answer InDoubt → is_open_by new number ≡ false
  pub memory : IsErrOf answer Memory → new ≡ old
  pub not_full : IsErrOf answer Full → ⊥
