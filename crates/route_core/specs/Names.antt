-- Fields of a node by the names that routes give them: fields of its type, and fields that a Script
-- declares. Rotations aren't kept, so a field of a rotation counts as missing (our choice).
use Rattle.std.specs.Prelude.{ℕ, List, Option, None, Some, if◌then◌else◌}
use Rattle.std.specs.Option.{option_and_then}
use denote.Enum.Bare.{sameb}
use Rattle.x3d_values.specs.contracts.field_type.FieldType as types
use Rattle.x3d_values.specs.declared.field_type.FieldType.TheVariants.{SFRotation}
use Rattle.x3d_values.specs.declared.table.FieldRow.{FieldRow}
use Rattle.x3d_values.specs.Access.{is_exposed}
use Rattle.x3d_values.specs.Aliases.{source_by, target_by}
use Rattle.x3d_values.specs.Tables.{FieldRowView, row_named}

-- the field, unless it is a rotation
abbrev pub no_rotation : FieldRow → Option FieldRow
no_rotation row = if sameb types.the_type row.field_type SFRotation then None else Some row

-- the field, if it is inputOutput
abbrev pub if_exposed : FieldRow → Option FieldRow
if_exposed row = if is_exposed row.access then Some row else None

-- the field with that name
abbrev pub exact : List FieldRowView → List ℕ → Option FieldRow
exact rows name = option_and_then no_rotation (row_named 0 name rows)

-- the inputOutput field with that name
abbrev pub exposed : List FieldRowView → List ℕ → Option FieldRow
exposed rows name = option_and_then if_exposed (exact rows name)

unfoldable pub target_field : List FieldRowView → List ℕ → Option FieldRow
target_field rows name = target_by (exact rows) (exposed rows) name

unfoldable pub source_field : List FieldRowView → List ℕ → Option FieldRow
source_field rows name = source_by (exact rows) (exposed rows) name
