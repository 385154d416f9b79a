-- What holds for the scripts of all scenes, for all their calls, and for the values that they take
-- and send.
use Rattle.std.specs.Prelude.{◌≡◌, ℕ, Bool, true, false, List, Some, slice_get}
use Rattle.std.specs.List.{list_all}
use Rattle.std.specs.Option.{option_map_or}
use Rattle.x3d_values.specs.declared.script.Kind.{Kind}
use Rattle.x3d_values.specs.declared.script.ScriptSpec.{ScriptSpec}
use Rattle.x3d_values.specs.Access.{sends}
use Rattle.x3d_values.specs.Tables.{FieldRowView}
use Rattle.scene_core.specs.Scene.{SceneView, rows_at}
use Rattle.script_running.specs.Runs.{run_of}
use Rattle.script_running.specs.Scripts.{script_list}
use Rattle.x3d_values.specs.declared.value.Value.{Value}
use Rattle.x3d_values.specs.declared.value.Value.TheVariants.{SFBool, SFInt32, SFFloat, SFTime, SFVec3f}
use Rattle.x3d_values.specs.Values.{type_of}
use Rattle.script_host.specs.Behaviour.{Call}
use Rattle.script_host.specs.Hosting.{SlotView}
use Rattle.script_host.specs.States.{integer_fits}
use Rattle.script_running.specs.Acting.{act, kinds_of}
use Rattle.script_running.specs.Ports.{PortsView}
use Rattle.script_running.specs.Values.{numbers_of, value_of}

-- ---- by which fields the nodes of scripts send

-- a node with these fields can send by this field
abbrev pub is_sent_by : List FieldRowView → ℕ → Bool
is_sent_by rows field =
    option_map_or (λ (row : FieldRowView). sends row.access) (slice_get rows field) false

-- a script of a known kind that declares the fields of its kind sends by outputs of its node
abbrev pub SendByOutputs : Type 0
SendByOutputs = (s : SceneView) (k : ℕ) (asked : ScriptSpec) (kind : Kind)
    → slice_get (script_list s) k ≡ Some asked → asked.kind ≡ Some kind → asked.fits ≡ true
    → list_all (is_sent_by (rows_at s asked.node)) (run_of s asked).ports.outputs ≡ true

-- ---- calls, and values

-- no call changes a kind, or the number of scripts
abbrev pub KindsStand : Type 0
KindsStand = (ports : PortsView) (call : Call) (k : ℕ) (scripts : List SlotView)
    → kinds_of (act ports call k scripts).scripts ≡ kinds_of scripts

-- a value of a type that scripts take or send, in the range of its type
abbrev pub IsSent : Value → Type 0
IsSent (SFBool truth) = Unit {0}
IsSent (SFInt32 number) = integer_fits number ≡ true
IsSent (SFFloat number) = Unit {0}
IsSent (SFTime time) = Unit {0}
IsSent (SFVec3f place) = Unit {0}
IsSent _ = ⊥

-- a value is recovered from its numbers
abbrev pub ValuesReturn : Type 0
ValuesReturn = (v : Value) → IsSent v → value_of (type_of v) (numbers_of v) ≡ v
