-- What is true of an open log, and what a crash leaves.
use Rattle.std.specs.Prelude.{◌≡◌, ◌⊎◌, ℕ, ◌≤◌, ◌++◌, Bool, IsTrue, List, [], ◌∷◌, length, take, Some, Ok, is_ok}
use Rattle.share_entries.specs.declared.head.Head.{Head}
use Rattle.share_entries.specs.Head.{head_in}
use Rattle.share_entries.specs.Entry.{EntryView}
use Rattle.share_entries.specs.Chain.{chain_after}
use Rattle.share_entries.specs.Frame.{frame_in}
use Rattle.share_entries.specs.Base.{BaseView, base_in}
use Rattle.share_log.specs.Frames.{frames_of}
use Rattle.share_log.specs.Log.{IsReady}
use Rattle.share_log.specs.declared.log.Log.{Log}
use Rattle.share_entries.specs.declared.start.Start.{Start}
use Rattle.share_file.specs.Entries.{start_among, entries_among, entries_in}

-- the head and nothing after it
abbrev pub IsNew : Head → List (List ℕ) → Type 0
IsNew head frames = (payload : List ℕ) × (head_in payload ≡ Ok head) × (frames ≡ payload ∷ [])

-- the head, the base, and nothing after them
abbrev pub IsNewWithBase : Head → BaseView → List (List ℕ) → Type 0
IsNewWithBase head base frames =
    (first second : List ℕ) × (head_in first ≡ Ok head) × (base_in second ≡ Some base)
    × (frames ≡ first ∷ second ∷ [])

-- one frame more, of these entries
abbrev pub IsMore : (chain : List ℕ) (first : ℕ) → List EntryView → (old new : List (List ℕ))
    → Type 0
IsMore chain first entries old new =
    (payload : List ℕ) × (frame_in chain first payload ≡ Ok entries) × (new ≡ old ++ payload ∷ [])

-- the same frames, or one more
abbrev pub OldOrMore : (chain : List ℕ) (first : ℕ) → List EntryView
    → (old new : List (List ℕ)) → Type 0
OldOrMore chain first entries old new = (new ≡ old) ⊎ IsMore chain first entries old new

-- the first entries that a file has
abbrev pub known_in : (start : Start) (count : ℕ) → (file : List ℕ) → List EntryView
known_in start count file = take count (entries_in start file)

-- one of the contents that a crash may leave has these entries
abbrev pub LeavesEntries : (start : Start) → (may_leave : List ℕ → Type 0) → List EntryView
    → Type 0
LeavesEntries start may_leave entries = (file : List ℕ) × may_leave file
    × (entries_in start file ≡ entries)

-- While a log is open, its file has the entries that it counted, and the chain is after them. Also
-- when it is in doubt, the file has the counted ones, and the chain is after these. What this says
-- of the file holds unless a read has lied.
pub record IsKept {D : Type 0} (seen : D → List ℕ) (may_leave : D → List ℕ → Type 0)
    (is_usable is_clean : D → Bool) (log : Log D) (start : Start) (chain : List ℕ) (count : ℕ)
    (is_open : Bool) : Type 0 where
  pub ready : IsTrue is_open → IsReady seen may_leave is_usable is_clean log
  pub named : IsTrue is_open → IsTrue (is_clean log.disk)
      → start_among (frames_of (seen log.disk)) ≡ Ok start
  pub reads : IsTrue is_open → IsTrue (is_clean log.disk)
      → IsTrue (is_ok (entries_among start (frames_of (seen log.disk))))
  pub linked : IsTrue is_open → IsTrue (is_clean log.disk)
      → chain ≡ chain_after start.chain (entries_in start (seen log.disk))
  pub all : IsTrue is_open → IsTrue (is_clean log.disk)
      → count ≡ length (entries_in start (seen log.disk))
  pub within : IsTrue (is_clean log.disk) → count ≤ length (entries_in start (seen log.disk))
  pub tied : IsTrue (is_clean log.disk)
      → chain ≡ chain_after start.chain (known_in start count (seen log.disk))
