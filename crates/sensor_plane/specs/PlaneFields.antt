-- The fields of a PlaneSensor that determine a drag (ISO/IEC 19775-1, pointing device sensor
-- component: PlaneSensor).
use Rattle.std.specs.Prelude.{ℕ, Option, Some, None}
use Rattle.x3d_values.specs.declared.fields.Fields.{Fields}
use Rattle.x3d_values.specs.declared.value.Value.{Value}
use Rattle.x3d_values.specs.declared.value.Value.TheVariants.{SFVec2f, SFVec3f}
use Rattle.x3d_values.specs.declared.vector.Vec2.{Vec2}
use Rattle.x3d_values.specs.declared.vector.Vec3.{Vec3}
use Rattle.x3d_values.specs.Kept.{with_value}
use Rattle.react_core.specs.Reaction.{stored}
use Rattle.sensor_core.specs.Timing.{◌>>=◌}
unfoldable pub use Rattle.sensor_core.specs.Timing.{truth_at}
use Rattle.sensor_plane.specs.declared.fields.PlaneFields.{PlaneFields}
use Rattle.sensor_plane.specs.declared.numbers.TheConstants.{AUTO_OFFSET, MAX_POSITION, MIN_POSITION, OFFSET}

abbrev pub pair_of : Value → Option Vec2
pair_of (SFVec2f pair) = Some pair
pair_of _ = None

abbrev pub triple_of : Value → Option Vec3
triple_of (SFVec3f triple) = Some triple
triple_of _ = None

-- the value of a field that keeps two numbers, or three
unfoldable pub pair_at : Fields → ℕ → Option Vec2
pair_at fields field = stored pair_of fields field

unfoldable pub triple_at : Fields → ℕ → Option Vec3
triple_at fields field = stored triple_of fields field

-- the values of a PlaneSensor's fields, if each field holds a value of its type
unfoldable pub plane_fields_of : Fields → Option PlaneFields
plane_fields_of fields = do
  auto ← truth_at fields AUTO_OFFSET
  max ← pair_at fields MAX_POSITION
  min ← pair_at fields MIN_POSITION
  offset ← triple_at fields OFFSET
  Some (record { auto_offset = auto; max_position = max; min_position = min; offset = offset })

-- the fields with this offset
abbrev pub with_offset : Fields → PlaneFields → Fields
with_offset fields plane = with_value fields OFFSET (SFVec3f plane.offset)
