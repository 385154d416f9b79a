-- The pointing sensors in the lists of a scene, kept with it: lists may be long, and few have
-- sensors.
use Rattle.std.specs.Prelude.{ℕ, List, [], map, Option, Some, None, slice_get}
use Rattle.std.specs.List.{filter}
use Rattle.std.specs.Option.{option_map_or}
use Rattle.scene_core.specs.declared.scene.SceneNode.{SceneNode}
use Rattle.scene_core.specs.declared.sensor_lists.SensorLists.{SensorLists}
use Rattle.scene_core.specs.Places.{is_sensor, own_children}
use Rattle.scene_core.specs.Scene.{SceneView, children_of}

-- the sensors in a list, in the order of the list
abbrev pub sensors_among : List SceneNode → List ℕ → List ℕ
sensors_among nodes ns = filter (is_sensor nodes) ns

abbrev pub sensors_among_children : List SceneNode → SceneNode → List ℕ
sensors_among_children nodes node = sensors_among nodes (own_children node)

-- the sensors that a scene keeps
abbrev pub sensor_lists : List SceneNode → List ℕ → SensorLists
sensor_lists nodes roots = record {
  roots = sensors_among nodes roots;
  children = map (sensors_among_children nodes) nodes;
}

-- the sensors kept for the list of the roots, or for the children of a node
abbrev pub kept_below : SensorLists → Option ℕ → List ℕ
kept_below lists None = lists.roots
kept_below lists (Some n) = option_map_or (λ (ns : List ℕ). ns) (slice_get lists.children n) []

-- ---- queries of a scene

-- the list of the roots, or the list `children` of a node
abbrev pub list_below : SceneView → Option ℕ → List ℕ
list_below s None = s.roots
list_below s (Some node) = children_of s node

abbrev pub sensors_below : SceneView → Option ℕ → List ℕ
sensors_below s owner = sensors_among s.nodes (list_below s owner)
