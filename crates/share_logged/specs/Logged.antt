-- The entries of a log with their numbers, as laws_hosts has them.
use Rattle.std.specs.Prelude.{ℕ, ◌+◌, List, [], ◌∷◌}
use Rattle.x3d_values.specs.declared.stamped.Cause.{Cause}
use Rattle.x3d_values.specs.declared.stamped.Cause.TheVariants as cause
use Rattle.share_entries.specs.Entry.{EntryView}
use Rattle.share_entries.specs.declared.entry.Source.{Source}
use Rattle.share_entries.specs.declared.entry.Source.TheVariants.{Clock, Offer}
use Rattle.laws_hosts.specs.Log.{Entry}

abbrev pub cause_of : Source → Cause
cause_of Clock = cause.Clock
cause_of (Offer o) = cause.Pointer o.pointer

-- the boot and the number of the offer; both are 0 for a clock
abbrev pub boot_of : Source → ℕ
boot_of Clock = 0
boot_of (Offer o) = o.boot

abbrev pub offer_of : Source → ℕ
offer_of Clock = 0
offer_of (Offer o) = o.number

-- the entry with this number
abbrev pub entry_at : (number : ℕ) → EntryView → Entry
entry_at number e =
    record {
      input = record { number = number; time = e.time; cause = cause_of e.source };
      boot = boot_of e.source;
      offer = offer_of e.source;
    }

-- entries with rising numbers, from this one on
abbrev pub logged_from : (number : ℕ) → List EntryView → List Entry
logged_from number [] = []
logged_from number (e ∷ es) = entry_at number e ∷ logged_from (number + 1) es

-- the entries of a log, from its first on
abbrev pub logged : List EntryView → List Entry
logged entries = logged_from 1 entries
