-- A log's entries, applied to a stage: each as the input that a host shows for it.
use Rattle.std.specs.Prelude.{ℕ, ◌+◌, List, [], ◌∷◌, nat_lt, Option, None, Some, if◌then◌else◌}
use Rattle.x3d_values.specs.Ranges.{max_inputs}
use Rattle.x3d_values.specs.Stamp.{StampedView}
use Rattle.share_entries.specs.Entry.{EntryView}
use Rattle.cascade_core.specs.Held.{StageView, after, applied_of, first_refusal, refusal_of}
use Rattle.cascade_core.specs.declared.fault.ApplyFault.{ApplyFault}
use Rattle.cascade_core.specs.declared.fault.ApplyFault.TheVariants.{NotNext}
use Rattle.share_logged.specs.Logged.{entry_at}

-- the input that a host shows for an entry after `applied` others
abbrev pub shown : (applied : ℕ) → EntryView → StampedView
shown applied e = (entry_at (applied + 1) e).input

-- no input has a number above the largest
abbrev pub shown_next : (applied : ℕ) → EntryView → Option StampedView
shown_next applied e = if nat_lt applied max_inputs then Some (shown applied e) else None

-- ---- one entry

abbrev pub after_entry : StageView → EntryView → StageView
after_entry s e = after s (shown (applied_of s.held) e)

abbrev pub refusal_with : StageView → Option StampedView → Option ApplyFault
refusal_with s None = Some NotNext
refusal_with s (Some input) = refusal_of s.held input

abbrev pub refusal_of_entry : StageView → EntryView → Option ApplyFault
refusal_of_entry s e = refusal_with s (shown_next (applied_of s.held) e)

-- ---- entries, one after another

abbrev pub after_entries : StageView → List EntryView → StageView
after_entries s [] = s
after_entries s (e ∷ es) = after_entries (after_entry s e) es

-- why a list of entries is refused: the fault of the first that is refused after those before it
abbrev pub refusal_in : StageView → List EntryView → Option ApplyFault
refusal_in s [] = None
refusal_in s (e ∷ es) = first_refusal (refusal_of_entry s e) (refusal_in (after_entry s e) es)
