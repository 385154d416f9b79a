-- What is kept of each viewer after more entries: its last numbered offer.
use Rattle.std.specs.Prelude.{ℕ, List, [], ◌∷◌, replicate, slice_set}
use Rattle.share_entries.specs.Entry.{EntryView}
use Rattle.share_entries.specs.declared.entry.Source.{Source}
use Rattle.share_entries.specs.declared.entry.Source.TheVariants.{Clock, Offer}
use Rattle.share_rules.specs.declared.kept.SeatCount.{SeatCount}

abbrev pub kept_by : List SeatCount → Source → List SeatCount
kept_by kept Clock = kept
kept_by kept (Offer o) =
    slice_set kept o.pointer.who (record { boot = o.boot; count = o.number })

abbrev pub kept_with : List SeatCount → List EntryView → List SeatCount
kept_with kept [] = kept
kept_with kept (e ∷ es) = kept_with (kept_by kept e.source) es

-- no offer of any viewer is numbered
abbrev pub none_kept : (viewers : ℕ) → List SeatCount
none_kept viewers = replicate viewers (record { boot = 0; count = 0 })
