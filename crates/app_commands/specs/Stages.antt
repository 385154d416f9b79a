-- Stages of a text's scene, one for each viewer, before any input, with boxes of the stock for its
-- scripts.
use Rattle.std.specs.Prelude.{◌≡◌, ℕ, List, replicate, Ok}
use Rattle.cascade_core.specs.Held.{StageView}
use Rattle.app_program.specs.declared.open.OpenedScene.{OpenedScene}
use Rattle.app_program.specs.Stages.{staged_scene}
pub use Rattle.app_program.specs.Stages.{IsStage, fresh, scripted, scripts_refusal, unless_refused}

-- the stages are this many stages of the text's scene before any input
pub record AreStages (count : ℕ) (text : List ℕ) (stages : List StageView) : Type 0 where
  pub scene : OpenedScene
  pub is_scene : staged_scene text ≡ Ok scene
  pub are : stages ≡ replicate count (fresh scene)
