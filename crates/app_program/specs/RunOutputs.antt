-- What a run writes of a world: the trace and then the scene, or the scene alone.
use Rattle.std.specs.Prelude.{ℕ, Bool, true, false, List}
use Rattle.cascade_core.specs.Course.{Scripted}
use Rattle.cascade_core.specs.Texts.{texts, scene_text}
use Rattle.scene_core.specs.declared.scene.Route.{Route}
use Rattle.scene_core.specs.Scene.{SceneView}
use Rattle.app_program.specs.declared.run_output.RunOutput.{RunOutput}
use Rattle.app_program.specs.declared.run_output.RunOutput.TheVariants.{TraceAndScene, SceneAlone}

abbrev pub output_text : RunOutput → SceneView → List Route → Scripted → List ℕ
output_text TraceAndScene scene routes w = texts scene routes w
output_text SceneAlone scene routes w = scene_text scene routes w

-- with `--no-trace` the scene alone
abbrev pub output_without : (no_trace : Bool) → RunOutput
output_without false = TraceAndScene
output_without true = SceneAlone
