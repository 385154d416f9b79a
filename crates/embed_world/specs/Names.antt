-- The number of a field by its name.
use Rattle.std.specs.Prelude.{ℕ, List, Option, None, if◌then◌else◌}
use Rattle.std.specs.Option.{option_map}
use Rattle.std.specs.Str.{is_utf8}
use Rattle.scene_core.specs.Scene.{SceneView, rows_at}
use Rattle.x3d_values.specs.Tables.{row_named}
use Rattle.x3d_values.specs.declared.table.FieldRow.{FieldRow}

-- the number of a node's field with this name, of its type or declared by it; bytes that are not
-- UTF-8 name no field
abbrev pub number_named : SceneView → ℕ → List ℕ → Option ℕ
number_named scene node name =
    if is_utf8 name
    then option_map (λ (row : FieldRow). row.number) (row_named 0 name (rows_at scene node))
    else None
