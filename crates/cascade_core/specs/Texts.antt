-- The texts of a world: its trace, with one line for each event that was sent, and its scene (which
-- texts there are is our choice).
use Rattle.std.specs.Prelude.{ℕ, List, ◌++◌}
use Rattle.std.specs.List.{flat_map}
use Rattle.scene_core.specs.declared.scene.Route.{Route}
use Rattle.scene_core.specs.Scene.{SceneView}
use Rattle.scene_text.specs.SceneText.{scene_text as text_of_scene}
use Rattle.cascade_trace.specs.LineText.{line_text}
use Rattle.cascade_core.specs.Course.{Scripted}

-- all events in the order in which they were sent
unfoldable pub trace_text : SceneView → Scripted → List ℕ
trace_text scene w = flat_map (line_text scene) w.world.trace

-- the scene with its routes and the current fields of its nodes
unfoldable pub scene_text : SceneView → List Route → Scripted → List ℕ
scene_text scene routes w = text_of_scene scene routes w.world.fields

-- what is written of a world: the trace and then the scene
abbrev pub texts : SceneView → List Route → Scripted → List ℕ
texts scene routes w = trace_text scene w ++ scene_text scene routes w
