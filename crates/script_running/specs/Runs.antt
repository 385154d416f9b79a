-- The scripts of a scene as a world runs them: the node of each, and the fields of the node that
-- are its inputs and outputs (ISO/IEC 19775-1, Script).
use Rattle.std.specs.Prelude.{ℕ, List, [], Option, Some, None, map}
use Rattle.std.specs.Option.{option_map_or}
use Rattle.x3d_values.specs.declared.script.Kind.{Kind}
use Rattle.x3d_values.specs.declared.script.ScriptSpec.{ScriptSpec}
use Rattle.x3d_values.specs.declared.table.FieldRow.{FieldRow}
use Rattle.x3d_values.specs.Tables.{FieldRowView, row_named}
use Rattle.script_host.specs.Interface.{inputs, outputs}
use Rattle.script_running.specs.Ports.{PortsView}
use Rattle.scene_core.specs.Scene.{SceneView, rows_at}
use Rattle.script_running.specs.declared.run.Run.{Run}
use Rattle.script_running.specs.Scripts.{script_list}

-- the number of the field with that name among these, or 0 if there is none
abbrev pub number_in : List FieldRowView → FieldRowView → ℕ
number_in rows e = option_map_or (λ (row : FieldRow). row.number) (row_named 0 e.name rows) 0

abbrev pub ports_of : List FieldRowView → Kind → PortsView
ports_of rows kind = record {
  inputs = map (number_in rows) (inputs kind);
  outputs = map (number_in rows) (outputs kind);
}

-- a script of an unknown kind has no ports
abbrev pub ports_by : List FieldRowView → Option Kind → PortsView
ports_by rows (Some kind) = ports_of rows kind
ports_by rows None = record { inputs = []; outputs = [] }

abbrev pub run_of : SceneView → ScriptSpec → Run
run_of s spec = record { node = spec.node; ports = ports_by (rows_at s spec.node) spec.kind }

-- the scripts of the scene by their numbers
abbrev pub runs_of : SceneView → List Run
runs_of s = map (run_of s) (script_list s)
