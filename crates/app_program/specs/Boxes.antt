-- Why boxes do not fit the scripts of a scene.
use Rattle.std.specs.Prelude.{⊤, List}
use Rattle.scene_core.specs.Scene.{SceneView}
use Rattle.script_running.specs.Scripts.{script_list}
use Rattle.script_host.specs.Attaching.{Refuses}
use Rattle.script_host.specs.Hosting.{SlotView}
use Rattle.script_host.specs.declared.fault.AttachFault.{AttachFault}
use Rattle.script_host.specs.declared.fault.AttachFault.TheVariants as attach
use Rattle.app_program.specs.declared.run_fault.RunFault.{RunFault}
use Rattle.app_program.specs.declared.run_fault.RunFault.TheVariants as run_fault

-- the boxes are not those that the scene's scripts ask for, for this reason. A refusal of memory is
-- not such a reason
abbrev pub RefusesBoxes : AttachFault → SceneView → List SlotView → Type 0
RefusesBoxes attach.Memory scene boxes = ⊥
RefusesBoxes fault scene boxes = Refuses fault (script_list scene) boxes

-- why boxes are not attached
abbrev pub IsRefused : SceneView → List SlotView → RunFault → Type 0
IsRefused scene boxes (run_fault.Attach fault) = RefusesBoxes fault scene boxes
IsRefused scene boxes run_fault.Memory = ⊤
IsRefused scene boxes run_fault.Device = ⊥
