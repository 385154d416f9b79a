-- The lines of a trace for the inputs from a number on, if the numbers of its inputs rise.
use Rattle.std.specs.Prelude.{◌≡◌, ℕ, Bool, List, [], ◌∷◌, true, false, count_by, length, nat_le, nat_lt, Option, Some, None, if◌then◌else◌}
use Rattle.cascade_trace.specs.declared.trace.TraceLine.{TraceLine}
use Rattle.cascade_trace.specs.declared.trace.Entry.{Entry}
use Rattle.cascade_trace.specs.declared.trace.EntryKind.{EntryKind}
use Rattle.cascade_trace.specs.declared.trace.EntryKind.TheVariants as entry_kind
use Rattle.cascade_trace.specs.declared.trace.EntryList.{EntryList}

-- nothing is written for the line of an input below this number
abbrev pub IsSilent : (TraceLine → List ℕ) → (first : ℕ) → Type 0
IsSilent text first = (l : TraceLine) → nat_lt l.input first ≡ true → text l ≡ []

-- the value of an entry of this kind is kept separately
abbrev pub is_aside : EntryKind → Bool
is_aside entry_kind.Other = true
is_aside _ = false

abbrev pub takes_value : Entry → Bool
takes_value e = is_aside e.kind

-- an entry of this kind is an input whose number is at most `first`
abbrev pub kind_begins : ℕ → Entry → EntryKind → Bool
kind_begins first e entry_kind.Input = nat_le e.input first
kind_begins first e _ = false

abbrev pub begins_by : ℕ → Entry → Bool
begins_by first e = kind_begins first e e.kind

-- the number of the last input, if each is above the one before it
abbrev pub risen_by : (ℕ → Option ℕ) → ℕ → Entry → EntryKind → Option ℕ
risen_by rest last e entry_kind.Input = if nat_lt last e.input then rest e.input else None
risen_by rest last e _ = rest last

unfoldable pub risen : ℕ → List Entry → Option ℕ
risen last [] = Some last
risen last (e ∷ es) = risen_by (λ n. risen n es) last e e.kind

-- there is one separate value for each entry that takes one
abbrev pub IsCounted : EntryList → Type 0
IsCounted k = count_by takes_value k.entries.items ≡ length k.values.items

-- if the trace is marked as in order, its inputs rise, up to the current one
abbrev pub IsInOrder : EntryList → Type 0
IsInOrder k = k.in_order ≡ true → risen 0 k.entries.items ≡ Some k.input
