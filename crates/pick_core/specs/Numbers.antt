-- The numbers of the fields that picking reads are those of the fields' names.
use Rattle.std.specs.Prelude.{◌≡◌, ℕ, List, Some, codes}
use Rattle.std.specs.Option.{option_map}
use Rattle.x3d_values.specs.declared.node_type.NodeType.{NodeType}
use Rattle.x3d_values.specs.declared.node_type.NodeType.TheVariants.{Box, PlaneSensor, Shape, Switch, TouchSensor, Transform}
use Rattle.x3d_values.specs.declared.table.FieldRow.{FieldRow}
use Rattle.x3d_values.specs.Tables.{rows, row_named}
use Rattle.pick_core.specs.declared.numbers.TheConstants.{CENTER, SCALE, TRANSLATION, WHICH_CHOICE, GEOMETRY, SIZE, ENABLED, PLANE_ENABLED}

-- the field with that name has that number
abbrev pub IsNumbered : NodeType → List ℕ → ℕ → Type 0
IsNumbered node_type name number =
    option_map (λ (row : FieldRow). row.number) (row_named 0 name (rows node_type)) ≡ Some number

pub record Numbers : Type 0 where
  pub center : IsNumbered Transform (codes "center") CENTER
  pub scale : IsNumbered Transform (codes "scale") SCALE
  pub translation : IsNumbered Transform (codes "translation") TRANSLATION
  pub which_choice : IsNumbered Switch (codes "whichChoice") WHICH_CHOICE
  pub geometry : IsNumbered Shape (codes "geometry") GEOMETRY
  pub size : IsNumbered Box (codes "size") SIZE
  pub enabled : IsNumbered TouchSensor (codes "enabled") ENABLED
  pub plane_enabled : IsNumbered PlaneSensor (codes "enabled") PLANE_ENABLED
