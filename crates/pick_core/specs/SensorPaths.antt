-- The part of a hit's path that leads to a sensor.
use Rattle.std.specs.Prelude.{◌≡◌, ℕ, true, List, Option, Some, take}
use Rattle.std.specs.Option.{option_map}
use Rattle.x3d_values.specs.declared.fields.Fields.{Fields}
use Rattle.x3d_values.specs.declared.vector.Vec3.{Vec3}
use Rattle.scene_core.specs.Scene.{SceneView}
use Rattle.pick_core.specs.Local.{local_along}
use Rattle.pick_core.specs.Paths.{depth_along, inward, leads_to, nodes_along}

-- the point of a hit in a sensor's coordinates is the hit's point taken inwards along that part
abbrev pub SensorsPointsAreInward : Type 0
SensorsPointsAreInward =
    (scene : SceneView) (state : List Fields) (sensor : ℕ) (owner : Option ℕ) (path : List ℕ)
    (at : Vec3)
    → local_along scene state sensor owner path at
    ≡ option_map
    (λ depth. inward scene state (nodes_along scene owner (take depth path)) at)
    (depth_along scene sensor owner path)

-- that part leads to a list that holds the sensor
abbrev pub SensorsPathsLead : Type 0
SensorsPathsLead =
    (scene : SceneView) (sensor : ℕ) (owner : Option ℕ) (path : List ℕ) (depth : ℕ)
    → depth_along scene sensor owner path ≡ Some depth
    → leads_to scene owner (take depth path) sensor ≡ true
