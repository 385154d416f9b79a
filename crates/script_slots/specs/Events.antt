-- Which values scripts take: the range of each type (our choice of kinds).
use Rattle.std.specs.Prelude.{ℕ, ℤ, pos, negsuc, List, [], ◌∷◌, Bool, true, false, ◌&&◌, ◌==◌, nat_lt, slice_get, unsigned_abs}
use Rattle.std.specs.Option.{option_map_or}
use Rattle.x3d_values.specs.Ranges.{coordinate_fits, is_time}
use Rattle.x3d_values.specs.declared.script.Kind.{Kind}
use Rattle.x3d_values.specs.declared.field_type.FieldType.{FieldType}
use Rattle.x3d_values.specs.declared.field_type.FieldType.TheVariants.{SFBool, SFFloat, SFTime}
use Rattle.x3d_values.specs.Tables.{FieldRowView}
use Rattle.script_slots.specs.Interface.{inputs}

-- the number is 0 for FALSE or 1 for TRUE
abbrev pub truth_fits : ℤ → Bool
truth_fits (pos n) = nat_lt n 2
truth_fits (negsuc n) = false

-- the number is in the range of the type, one that scripts take
abbrev pub number_fits : FieldType → ℤ → Bool
number_fits SFBool z = truth_fits z
number_fits SFFloat z = coordinate_fits z
number_fits SFTime z = is_time z
number_fits _ z = false

-- the numbers are a value of this type: the first is in its range, the others are 0
abbrev pub event_fits : FieldType → List ℤ → Bool
event_fits t (first ∷ second ∷ third ∷ []) =
    number_fits t first && (unsigned_abs second == 0 && unsigned_abs third == 0)
event_fits t _ = false

-- the event is a value of this input's type; TRUE if the kind has no such input
abbrev pub takes_event : Kind → ℕ → List ℤ → Bool
takes_event kind input event =
    option_map_or (λ (e : FieldRowView). event_fits e.field_type event)
    (slice_get (inputs kind) input) true
