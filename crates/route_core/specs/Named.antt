-- The content of the tables of fields by name. It isn't part of the definition.
use Rattle.std.specs.Prelude.{◌≡◌, ℕ, List, drop, Option, Some, None, if◌then◌else◌}
use Rattle.std.specs.Str.{bytes_eq}
use Rattle.std.specs.BTreeMap.{get_by}
use Rattle.std.specs.Cmp.Lexicographic.{slice_cmp}
use Rattle.std.specs.Ordering.{nat_cmp}
use Rattle.x3d_values.specs.declared.table.FieldRow.{FieldRow}
use Rattle.x3d_values.specs.Tables.{FieldRowView, numbered, row_named}
use Rattle.scene_core.specs.Scene.{SceneView, rows_at}
use Rattle.route_core.specs.declared.named.RowTable.{RowTable}
use Rattle.route_core.specs.declared.named.RowTables.{RowTables}

-- fields by name
abbrev pub Rows : Type 0
Rows = List ℕ → Option FieldRow

-- the map as a function
unfoldable pub rows_in : RowTable → Rows
rows_in table name = get_by (λ k. slice_cmp nat_cmp name k.now) table.rows

abbrev pub no_rows : Rows
no_rows name = None

abbrev pub with_row : List ℕ → FieldRow → Rows → Rows
with_row given row rows name = if bytes_eq name given then Some row else rows name

-- sets the entry for its name, if there is one; it replaces an entry of the same name
abbrev pub with_entry : ℕ → Option FieldRowView → Rows → Rows
with_entry n None rows = rows
with_entry n (Some e) rows = with_row e.name (numbered n e) rows

-- the fields from number n on
abbrev pub rows_from : ℕ → List FieldRowView → Rows
rows_from n entries name = row_named n name (drop n entries)

-- the map as a function
unfoldable pub table_at : RowTables → ℕ → Option RowTable
table_at tables node = get_by (nat_cmp node) tables.tables

-- the table of a node, if there is one, has the node's fields
unfoldable pub AreTables : SceneView → RowTables → Type 0
AreTables scene tables =
    (node : ℕ) (table : RowTable) → table_at tables node ≡ Some table
    → rows_in table ≡ rows_from 0 (rows_at scene node)
