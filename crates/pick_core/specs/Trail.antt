-- The way down a scene to a node.
use Rattle.std.specs.Prelude.{ℕ, List, [], ◌∷◌, ◌++◌, map}
use Rattle.x3d_values.specs.declared.fields.Fields.{Fields}
use Rattle.scene_core.specs.Scene.{SceneView}
use Rattle.pick_core.specs.Boxes.{Placed}
use Rattle.pick_core.specs.Motion.{moved_at}
use Rattle.pick_rules.specs.declared.bounds.Bounds.{Bounds}
use Rattle.pick_core.specs.declared.trail.Place.{Place}

-- a box at the end of a trail, in the coordinates of the world
unfoldable pub carried : SceneView → List Fields → List Place → Bounds → Bounds
carried scene state [] b = b
carried scene state (p ∷ ps) b = moved_at scene state p.node (carried scene state ps b)

abbrev pub positions : List Place → List ℕ
positions trail = map (λ (p : Place). p.position) trail

-- a box inside the last node of a trail, in the coordinates of the world
abbrev pub raised : SceneView → List Fields → List Place → Placed → Placed
raised scene state trail b =
    record { path = positions trail ++ b.path; bounds = carried scene state trail b.bounds }
