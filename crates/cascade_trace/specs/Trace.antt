-- The lines of a trace as it is kept.
use Rattle.std.specs.Prelude.{◌≡◌, ℕ, ℤ, Bool, ◌++◌, List, [], ◌∷◌, pos, neg_ℤ, true, false, Option, Some, None}
use Rattle.std.specs.Int.{int_max, int_min}
use Rattle.x3d_values.specs.declared.value.Value.{Value}
use Rattle.x3d_values.specs.declared.value.Value.TheVariants.{SFBool, SFInt32, SFFloat, SFTime}
use Rattle.scene_core.specs.declared.scene.End.{End}
use Rattle.cascade_trace.specs.declared.trace.TraceLine.{TraceLine}
use Rattle.cascade_trace.specs.declared.trace.Entry.{Entry}
use Rattle.cascade_trace.specs.declared.trace.EntryKind.{EntryKind}
use Rattle.cascade_trace.specs.declared.trace.EntryKind.TheVariants as entry_kind
use Rattle.cascade_trace.specs.declared.trace.EntryList.{EntryList}

abbrev pub line : ℕ → ℤ → End → Value → TraceLine
line input time source v = record { input = input; time = time; source = source; value = v }

abbrev pub end_of : Entry → End
end_of e = record { node = e.node; field = e.field }

-- the 32-bit integer that is nearest to a word
abbrev pub whole_of : ℤ → ℤ
whole_of word = int_max (neg_ℤ (pos 2147483648)) (int_min word (pos 2147483647))

-- an event that takes the next of the separate values; there is no line without a value
abbrev pub taking : (List Value → List TraceLine) → ℕ → ℤ → End → List Value → List TraceLine
taking rest input time source [] = rest []
taking rest input time source (v ∷ values) = line input time source v ∷ rest values

-- the line of an entry, followed by those of the later entries, at the input of this number and
-- time
abbrev pub lines_by : (ℕ → ℤ → List Value → List TraceLine) → ℕ → ℤ → List Value → Entry → EntryKind
    → List TraceLine
lines_by rest input time values e entry_kind.Input = rest e.input e.word values
lines_by rest input time values e entry_kind.True =
    line input time (end_of e) (SFBool true) ∷ rest input time values
lines_by rest input time values e entry_kind.False =
    line input time (end_of e) (SFBool false) ∷ rest input time values
lines_by rest input time values e entry_kind.Whole =
    line input time (end_of e) (SFInt32 (whole_of e.word)) ∷ rest input time values
lines_by rest input time values e entry_kind.Number =
    line input time (end_of e) (SFFloat e.word) ∷ rest input time values
lines_by rest input time values e entry_kind.Time =
    line input time (end_of e) (SFTime e.word) ∷ rest input time values
lines_by rest input time values e entry_kind.Other =
    taking (rest input time) input time (end_of e) values

-- the lines of the entries after an input of this number and time, with their separate values
unfoldable pub lines_of : List Entry → ℕ → ℤ → List Value → List TraceLine
lines_of [] input time values = []
lines_of (e ∷ es) input time values = lines_by (lines_of es) input time values e e.kind

-- the lines that are kept
abbrev pub kept_lines : EntryList → List TraceLine
kept_lines k = lines_of k.entries.items 0 (pos 0) k.values.items

-- whatever is appended gives lines of the current input
abbrev pub IsOpen : EntryList → Type 0
IsOpen k = (es : List Entry) (vs : List Value) →
    lines_of (k.entries.items ++ es) 0 (pos 0) (k.values.items ++ vs)
    ≡ kept_lines k ++ lines_of es k.input k.time vs

-- the value that an entry of this kind holds itself, if it is an event
abbrev pub plain_value : EntryKind → ℤ → Option Value
plain_value entry_kind.Input word = None
plain_value entry_kind.True word = Some (SFBool true)
plain_value entry_kind.False word = Some (SFBool false)
plain_value entry_kind.Whole word = Some (SFInt32 (whole_of word))
plain_value entry_kind.Number word = Some (SFFloat word)
plain_value entry_kind.Time word = Some (SFTime word)
plain_value entry_kind.Other word = None

-- the entry is an event
abbrev pub is_event : EntryKind → Bool
is_event entry_kind.Input = false
is_event _ = true

abbrev pub tells_line : Entry → Bool
tells_line e = is_event e.kind

-- the entry is that of an event with this value, whatever the input
abbrev pub IsPlain : End → Value → Entry → Type 0
IsPlain source v e = (es : List Entry) (input : ℕ) (time : ℤ) (vs : List Value) →
    lines_of (e ∷ es) input time vs ≡ line input time source v ∷ lines_of es input time vs

abbrev pub entry_of : End → EntryKind → ℤ → Entry
entry_of source kind word =
    record { input = 0; node = source.node; field = source.field; kind = kind; word = word }

-- the entry of an input
abbrev pub input_entry : ℕ → ℤ → Entry
input_entry input time =
    record { input = input; node = 0; field = 0; kind = entry_kind.Input; word = time }

-- the entry of an event with this value, if the entry can hold the value itself
abbrev pub plain_entry : End → Value → Option Entry
plain_entry source (SFBool true) = Some (entry_of source entry_kind.True (pos 0))
plain_entry source (SFBool false) = Some (entry_of source entry_kind.False (pos 0))
plain_entry source (SFInt32 number) = Some (entry_of source entry_kind.Whole number)
plain_entry source (SFFloat number) = Some (entry_of source entry_kind.Number number)
plain_entry source (SFTime time) = Some (entry_of source entry_kind.Time time)
plain_entry source _ = None

-- an integer in a value has 32 bits
abbrev pub IsWhole : Value → Type 0
IsWhole (SFInt32 number) = whole_of number ≡ number
IsWhole _ = Unit {0}
