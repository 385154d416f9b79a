-- How many lines a trace has: no output sends twice at one timestamp (ISO/IEC 19775-1, event
-- model).
use Rattle.std.specs.Prelude.{◌+◌, ◌^◌, ◌≤◌, ◌<◌, List, length}
use Rattle.x3d_values.specs.Stamp.{StampedView}
use Rattle.scene_core.specs.declared.scene.Route.{Route}
use Rattle.scene_core.specs.Scene.{SceneView, shapes_of}
use Rattle.laws_worlds.specs.Nodes.{RunsAll}
use Rattle.cascade_core.specs.Apply.{apply, opening, world}
use Rattle.cascade_core.specs.Course.{Scripted}
use Rattle.cascade_core.specs.Outputs.{outputs_of}

-- an input adds at most one line for each output of the scene, if all its scripts run
abbrev pub InputsSendFew : Type 0
InputsSendFew =
    (scene : SceneView) (routes : List Route) (w : Scripted) (input : StampedView)
    → RunsAll scene
    → length (apply scene routes w input).world.trace
    ≤ length w.world.trace + outputs_of (shapes_of scene)

-- the same holds for input 0, which initializes the scripts
abbrev pub OpeningsSendFew : Type 0
OpeningsSendFew =
    (scene : SceneView) (routes : List Route)
    → RunsAll scene
    → length (opening scene routes).world.trace ≤ outputs_of (shapes_of scene)

-- the lines in the trace of a scene of at most 65,536 nodes, after fewer than 2^32 - 1 inputs
abbrev pub TracesAreCounted : Type 0
TracesAreCounted =
    (scene : SceneView) (routes : List Route) (inputs : List StampedView)
    → RunsAll scene → length scene.nodes ≤ 2 ^ 16 → length inputs + 1 < 2 ^ 32
    → length (world scene routes inputs).world.trace < 2 ^ 64
