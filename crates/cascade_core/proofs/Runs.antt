-- A running stage after a list of inputs holds the world after them.
use Rattle.std.proofs.Common.{◌≡◌, List, [], ◌∷◌, refl}
use Rattle.x3d_values.specs.Stamp.{StampedView}
use Rattle.scene_core.specs.declared.scene.Route.{Route}
use Rattle.scene_core.specs.Scene.{SceneView}
use Rattle.cascade_core.specs.Apply.{world_after, apply}
use Rattle.cascade_core.specs.Course.{Scripted}
use Rattle.cascade_core.specs.Held.{Running, after_all}

pub after_all_running : (scene : SceneView) (routes : List Route) (w : Scripted) (inputs : List StampedView) →
    after_all (record { scene = scene; routes = routes; held = Running w }) inputs ≡ record { scene = scene; routes = routes; held = Running (world_after scene routes w inputs) }
after_all_running scene routes w [] = refl
after_all_running scene routes w (input ∷ inputs) = after_all_running scene routes (apply scene routes w input) inputs
