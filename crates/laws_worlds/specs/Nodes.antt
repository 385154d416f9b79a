-- The scripts of a scene that run, and what their nodes send (ISO/IEC 19775-1, Script).
use Rattle.std.specs.Prelude.{◌≡◌, ℕ, ◌&&◌, Bool, true, List, Some, is_some, slice_get, slice_index_or, IsSomeAnd}
use Rattle.std.specs.List.{list_all}
use Rattle.x3d_values.specs.declared.field_type.FieldType.{FieldType}
use Rattle.x3d_values.specs.declared.script.Kind.{Kind}
use Rattle.x3d_values.specs.declared.script.ScriptSpec.{ScriptSpec}
use Rattle.x3d_values.specs.Access.{sends}
use Rattle.x3d_values.specs.Tables.{FieldRowView}
use Rattle.script_host.specs.Attaching.{Fits}
use Rattle.script_host.specs.Hosting.{SlotView}
use Rattle.script_host.specs.Interface.{outputs}
use Rattle.scene_core.specs.Scene.{SceneView, rows_at}
use Rattle.script_running.specs.Runs.{run_of}
use Rattle.script_running.specs.Scripts.{script_list}

-- ---- which scripts run

-- the script's kind is known, and its interface is that of the kind
abbrev pub runs : ScriptSpec → Bool
runs asked = is_some asked.kind && asked.fits

-- each script that the scene asks for runs
abbrev pub RunsAll : SceneView → Type 0
RunsAll s = list_all runs (script_list s) ≡ true

-- all scripts run if boxes were attached: boxes that do not fit are refused
abbrev pub AttachedRun : Type 0
AttachedRun = (s : SceneView) (boxes : List SlotView) → Fits (script_list s) boxes → RunsAll s

-- ---- what they send

-- among these fields, the one with this number sends events of the type
abbrev pub Sends : List FieldRowView → ℕ → FieldType → Type 0
Sends rows field t =
    IsSomeAnd (slice_get rows field) (λ row. (sends row.access ≡ true) × (row.field_type ≡ t))

-- if a script runs, each output of its kind is a field by which its node sends events of the
-- output's type
abbrev pub OutputsTyped : Type 0
OutputsTyped =
    (s : SceneView) (k : ℕ) (asked : ScriptSpec) (kind : Kind) (i : ℕ) (e : FieldRowView)
    → slice_get (script_list s) k ≡ Some asked → asked.kind ≡ Some kind → asked.fits ≡ true
    → slice_get (outputs kind) i ≡ Some e
    → Sends (rows_at s asked.node) (slice_index_or (run_of s asked).ports.outputs i 0) e.field_type
