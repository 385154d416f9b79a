-- Stages into which one text was loaded, before their first input.
use Rattle.std.specs.Prelude.{◌≡◌, ℕ, List, [], ◌∷◌}
use Rattle.proto_flat.specs.declared.flat.Flat.{Flat}
use Rattle.scene_core.specs.declared.scene.Route.{Route}
use Rattle.scene_core.specs.Scene.{SceneView}
use Rattle.cascade_core.specs.Apply.{opening}
use Rattle.cascade_core.specs.Held.{StageView, Running}
use Rattle.laws_worlds.specs.Nodes.{RunsAll}
use Rattle.laws_worlds.specs.Opened.{IsOpened}

-- stages of this scene, with these routes
abbrev pub AreOf : SceneView → List Route → List StageView → Type 0
AreOf scene routes [] = Unit {0}
AreOf scene routes (stage ∷ stages) =
    (stage.scene ≡ scene) × (stage.routes ≡ routes) × AreOf scene routes stages

-- all stages loaded this text, which has this scene and these routes, and boxes were attached to
-- its scripts: each script runs
pub record AreLoaded (text : List ℕ) (scene : SceneView) (routes : List Route)
    (stages : List StageView) : Type 0 where
  pub flat : Flat
  pub is_scene : IsOpened text flat scene routes
  pub attached : RunsAll scene
  pub one_scene : AreOf scene routes stages

-- stages that have had no input
abbrev pub AreFresh : List StageView → Type 0
AreFresh [] = Unit {0}
AreFresh (stage ∷ stages) =
    (stage.held ≡ Running (opening stage.scene stage.routes)) × AreFresh stages
