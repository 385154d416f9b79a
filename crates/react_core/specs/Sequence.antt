-- The positions of sequencers (ISO/IEC 19775-1, event utilities; our choice: at first a sequencer
-- has no position).
use Rattle.std.specs.Prelude.{ℕ, ◌+◌, ◌-◌, ◌^◌, ℤ, Bool, ◌&&◌, ◌==◌, nat_lt, List, length, slice_get, Option, Some, None, if◌then◌else◌}
use Rattle.std.specs.Option.{option_map, option_and_then}
use Rattle.x3d_values.specs.declared.fields.Fields.{Fields}
use Rattle.x3d_values.specs.declared.fields.Position.{Position}
use Rattle.x3d_values.specs.declared.value.Value.{Value}
use Rattle.x3d_values.specs.Kept.{field_value}
use Rattle.react_core.specs.declared.numbers.TheConstants.{KEY, NEXT, PREVIOUS, SEQUENCE_FRACTION}
use Rattle.react_core.specs.declared.sequence.Keyed.{Keyed}
use Rattle.react_core.specs.Keys.{have_steps, step_of}
use Rattle.react_core.specs.Stored.{truth_of, number_of, numbers_of}

-- the position, or none if it isn't below the count
abbrev pub present : Position → ℕ → Option ℕ
present position count =
    option_and_then (λ at. if nat_lt at count then Some at else None) position.at

-- from no position to the first, and from the last to the first
abbrev pub next_of : Option ℕ → ℕ → ℕ
next_of None count = 0
next_of (Some at) count = if at + 1 == count then 0 else at + 1

-- from no position to the last, and from the first to the last
abbrev pub previous_of : Option ℕ → ℕ → ℕ
previous_of None count = count - 1
previous_of (Some at) count = if at == 0 then count - 1 else at - 1

-- TRUE steps, and FALSE does nothing
abbrev pub on_true : Value → ℕ → Option ℕ
on_true value at = option_and_then (λ truth. if truth then Some at else None) (truth_of value)

-- the index to which an event moves a sequencer with these keys
abbrev pub stepped : List ℤ → Position → ℕ → Value → Option ℕ
stepped keys position input value =
    if input == NEXT then on_true value (next_of (present position (length keys)) (length keys))
    else (if input == PREVIOUS
    then on_true value (previous_of (present position (length keys)) (length keys))
    else (if input == SEQUENCE_FRACTION then option_and_then (step_of keys) (number_of value)
    else None))

-- there are keys, none is below the previous one, and each has a value; a position has 32 bits (our
-- choice)
abbrev pub is_sequence : List ℤ → ℕ → Bool
is_sequence keys count = have_steps keys && ((count == length keys) && nat_lt count (2 ^ 32))

-- the index to which an event moves a sequencer with `count` values
unfoldable pub place_after : Fields → ℕ → Value → ℕ → Option ℕ
place_after fields input value count =
    option_and_then
    (λ keys. if is_sequence keys count then stepped keys fields.position input value else None)
    (option_and_then numbers_of (field_value fields KEY))

abbrev pub step : ℕ → Value → Keyed
step at value = record { at = at; value = value }

-- the index with the value there
abbrev pub step_after : Fields → ℕ → Value → List Value → Option Keyed
step_after fields input value values =
    option_and_then (λ at. option_map (step at) (slice_get values at))
    (place_after fields input value (length values))
