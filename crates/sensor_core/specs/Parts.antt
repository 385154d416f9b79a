-- What a sensor keeps in addition to its fields, in plain numbers (our choice).
use Rattle.std.specs.Prelude.{ℕ, ◌+◌, ◌*◌, ◌==◌, pos, int_le, unsigned_abs, Bool, true, false, List, [], ◌∷◌, map, Option, Some, None, if◌then◌else◌}
use Rattle.std.specs.Int.{bit_at}
use Rattle.std.specs.List.{range_with_len}
use Rattle.std.specs.Option.{option_map_or}
use Rattle.x3d_values.specs.declared.ranges.TheConstants.{MAX_VIEWERS}
use Rattle.x3d_values.specs.Ranges.{is_viewer}
use Rattle.sensor_core.specs.declared.parts.TimeParts.{TimeParts}
use Rattle.sensor_core.specs.declared.parts.TouchParts.{TouchParts}
use Rattle.sensor_core.specs.Touches.{TouchStateView}

-- ---- a TimeSensor: whether it is active, and its cycle, or 0 if it isn't active

unfoldable pub parts_of_cycle : Option ℕ → TimeParts
parts_of_cycle None = record { active = false; cycle = pos 0 }
parts_of_cycle (Some cycle) = record { active = true; cycle = pos cycle }

-- none if the cycle is below 0, or isn't 0 although the sensor isn't active
unfoldable pub cycle_of_parts : TimeParts → Option (Option ℕ)
cycle_of_parts parts =
    if parts.active
    then (if int_le (pos 0) parts.cycle then Some (Some (unsigned_abs parts.cycle)) else None)
    else (if unsigned_abs parts.cycle == 0 then Some None else None)

-- ---- a TouchSensor: a number whose bit v is 1 if viewer v's pointer is over it; the presser

abbrev pub bit_of : Bool → ℕ
bit_of true = 1
bit_of false = 0

abbrev pub number_of : List Bool → ℕ
number_of [] = 0
number_of (over ∷ others) = bit_of over + 2 * number_of others

unfoldable pub parts_of_touch : TouchStateView → TouchParts
parts_of_touch touch = record { over = number_of touch.over; presser = touch.presser }

unfoldable pub over_of : ℕ → List Bool
over_of number = map (λ viewer. bit_at number viewer == 1) (range_with_len 0 MAX_VIEWERS)

-- none if the presser isn't a viewer
unfoldable pub touch_of_parts : TouchParts → Option TouchStateView
touch_of_parts parts =
    if option_map_or is_viewer parts.presser true
    then Some (record { over = over_of parts.over; presser = parts.presser })
    else None
