-- The stage of a text's scene before any input, with boxes of the stock for its scripts, or why
-- there is none.
use Rattle.std.specs.Prelude.{◌≡◌, ℕ, List, Option, Some, None, Result, Ok, Err}
use Rattle.std.specs.Option.{option_map}
use Rattle.cascade_core.specs.Apply.{opening}
use Rattle.cascade_core.specs.Held.{StageView, Running}
use Rattle.scene_core.specs.Scene.{SceneView}
use Rattle.script_running.specs.Scripts.{script_list}
use Rattle.script_boxes.specs.Refused.{scripts_fault}
use Rattle.script_host.specs.declared.fault.AttachFault.{AttachFault}
use Rattle.app_jobs.specs.declared.fault.JobFault.{JobFault}
use Rattle.app_jobs.specs.declared.fault.JobFault.TheVariants.{Attach}
use Rattle.app_program.specs.Opening.{next, opened, same}
use Rattle.app_program.specs.declared.open.OpenedScene.{OpenedScene}

-- why the scripts of a scene are refused
abbrev pub scripts_refusal : SceneView → Option JobFault
scripts_refusal scene =
    option_map (λ (fault : AttachFault). Attach fault) (scripts_fault (script_list scene))

-- the stage of a scene before any input
abbrev pub fresh : OpenedScene → StageView
fresh o = record { scene = o.scene; routes = o.routes; held = Running (opening o.scene o.routes) }

-- the stage has had no input
abbrev pub IsFresh : StageView → Type 0
IsFresh s = s.held ≡ Running (opening s.scene s.routes)

abbrev pub unless_refused : {X : Type 0} → X → Option JobFault → Result X JobFault
unless_refused x None = Ok x
unless_refused x (Some fault) = Err fault

-- the stage of a scene, unless its scripts are refused
abbrev pub staged : OpenedScene → Result StageView JobFault
staged o = unless_refused (fresh o) (scripts_refusal o.scene)

-- a scene whose scripts are taken, or why they are refused
abbrev pub scripted : OpenedScene → Result OpenedScene JobFault
scripted o = unless_refused o (scripts_refusal o.scene)

-- the scene of a text, and its routes, if its scripts are taken
unfoldable pub staged_scene : List ℕ → Result OpenedScene JobFault
staged_scene text = next same (opened text) scripted

-- a stage of the text's scene before any input
pub record IsStage (text : List ℕ) (stage : StageView) : Type 0 where
  pub scene : OpenedScene
  pub is_scene : staged_scene text ≡ Ok scene
  pub is : stage ≡ fresh scene

-- the stage of a text's scene
unfoldable pub opened_stage : List ℕ → Result StageView JobFault
opened_stage text = next same (opened text) staged
