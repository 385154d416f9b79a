-- The scripts that a world runs (ISO/IEC 19775-1, Script).
use Rattle.std.specs.Prelude.{false, List, Option}
use Rattle.std.specs.List.{filter_map}
use Rattle.std.specs.Option.{option_map}
use Rattle.x3d_values.specs.declared.script.Kind.{Kind}
use Rattle.x3d_values.specs.declared.script.ScriptSpec.{ScriptSpec}
use Rattle.scene_core.specs.Scene.{SceneView}
use Rattle.script_running.specs.Scripts.{script_list}
use Rattle.script_host.specs.Hosting.{SlotView}
use Rattle.script_running.specs.Acting.{kinds_of}
pub use Rattle.script_running.specs.Running.{are_begun, running, script_from, states_of}

-- a script that the scene specifies, before it is initialized; none if its kind is unknown
abbrev pub script_for : ScriptSpec → Option SlotView
script_for asked =
    option_map
    (λ (kind : Kind). record { kind = kind; state = asked.start; initialized = false })
    asked.kind

-- all scripts that the scene specifies and whose kinds are known
abbrev pub scripts_in : SceneView → List SlotView
scripts_in scene = filter_map script_for (script_list scene)

abbrev pub kinds_in : SceneView → List Kind
kinds_in scene = kinds_of (scripts_in scene)
