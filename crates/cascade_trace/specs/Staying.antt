-- The entries and the separate values that stay once old lines are dropped.
use Rattle.std.specs.Prelude.{ℕ, ℤ, Bool, List, [], ◌∷◌, nat_le, if◌then◌else◌}
use Rattle.x3d_values.specs.declared.value.Value.{Value}
use Rattle.cascade_trace.specs.declared.trace.Entry.{Entry}
use Rattle.cascade_trace.specs.declared.trace.EntryKind.{EntryKind}
use Rattle.cascade_trace.specs.declared.trace.EntryKind.TheVariants as entry_kind
use Rattle.cascade_trace.specs.Since.{takes_value}

-- the number and the time of the last input, once this entry is passed
abbrev pub input_by : ℕ → Entry → EntryKind → ℕ
input_by input e entry_kind.Input = e.input
input_by input e _ = input

abbrev pub time_by : ℤ → Entry → EntryKind → ℤ
time_by time e entry_kind.Input = e.word
time_by time e _ = time

abbrev pub input_after : ℕ → Entry → ℕ
input_after input e = input_by input e e.kind

abbrev pub time_after : ℤ → Entry → ℤ
time_after time e = time_by time e e.kind

unfoldable pub last_input : List Entry → ℕ → ℕ
last_input [] input = input
last_input (e ∷ es) input = last_input es (input_after input e)

unfoldable pub last_time : List Entry → ℤ → ℤ
last_time [] time = time
last_time (e ∷ es) time = last_time es (time_after time e)

-- the entries that stay of those after an input of this number
unfoldable pub entries_from : (below : ℕ) → List Entry → (input : ℕ) → List Entry
entries_from below [] input = []
entries_from below (e ∷ es) input =
    if nat_le below (input_after input e)
    then e ∷ entries_from below es (input_after input e)
    else entries_from below es (input_after input e)

-- the separate values that stay: those of the entries that stay
abbrev pub value_from : (stays : Bool) → (List Value → List Value) → List Value → List Value
value_from stays rest [] = []
value_from stays rest (v ∷ values) = if stays then v ∷ rest values else rest values

unfoldable pub values_from : (below : ℕ) → List Entry → (input : ℕ) → List Value → List Value
values_from below [] input values = []
values_from below (e ∷ es) input values =
    if takes_value e
    then value_from (nat_le below (input_after input e)) (values_from below es (input_after input e)) values
    else values_from below es (input_after input e) values
