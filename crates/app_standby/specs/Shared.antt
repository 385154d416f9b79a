-- What a host over a shared log sends is of the entries that the log had at its time.
use Rattle.std.specs.Prelude.{◌≡◌, ℕ, List, ◌++◌, slice_get, Option, None, Some, ⊤}
use Rattle.share_entries.specs.Entry.{EntryView}
use Rattle.share_logged.specs.Shown.{IsShown}
use Rattle.share_store.specs.OneLog.{Begins}
use Rattle.share_turns.specs.declared.traffic.Datagram.{Datagram}
use Rattle.share_turns.specs.declared.traffic.Traffic.{Traffic}
use Rattle.share_turns.specs.declared.traffic.Traffic.TheVariants.{Sent}

-- the datagram is of the first entries of the log, or of all
abbrev pub IsShownOf : (mark : List ℕ) → (viewers : ℕ) → List EntryView → (bytes : List ℕ) → Type 0
IsShownOf mark viewers entries bytes =
    (first : List EntryView) × Begins first entries × IsShown mark viewers first bytes

abbrev pub AreShownOf : (mark : List ℕ) → (viewers : ℕ) → List EntryView → List Traffic → Type 0
AreShownOf mark viewers entries passed =
    (n : ℕ) (d : Datagram) → slice_get passed n ≡ Some (Sent d)
    → IsShownOf mark viewers entries d.bytes

-- each datagram that a port sent meanwhile is of first entries of the log; nothing is said of a
-- port that keeps no record
abbrev pub ShowsFirst : (mark : List ℕ) → (viewers : ℕ) → List EntryView
    → (told_before told_after : Option (List Traffic)) → Type 0
ShowsFirst mark viewers entries None b = ⊤
ShowsFirst mark viewers entries (Some before) None = ⊥
ShowsFirst mark viewers entries (Some before) (Some after) =
    (passed : List Traffic) × (after ≡ before ++ passed) × AreShownOf mark viewers entries passed
