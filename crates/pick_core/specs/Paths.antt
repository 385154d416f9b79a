-- The path down a scene to one of its lists, and points along it (ISO/IEC 19775-1, grouping
-- component: Transform; the rounding and the limit are our choice).
use Rattle.std.specs.Prelude.{ℕ, ◌+◌, ◌==◌, Bool, false, true, not, ◌&&◌, List, [], ◌∷◌, slice_get, Option, Some, None, if◌then◌else◌}
use Rattle.std.specs.List.{list_any}
use Rattle.std.specs.Option.{option_and_then, option_map, option_map_or}
use Rattle.x3d_values.specs.declared.fields.Fields.{Fields}
use Rattle.x3d_values.specs.declared.node_type.NodeType.{NodeType}
use Rattle.x3d_values.specs.declared.node_type.NodeType.TheVariants as type
use Rattle.x3d_values.specs.declared.vector.Vec3.{Vec3}
use Rattle.scene_core.specs.Scene.{SceneView, type_at}
use Rattle.pick_core.specs.Local.{moved_back}
use Rattle.pick_core.specs.Looks.{motion_of}
use Rattle.pick_core.specs.Motion.{moved}
use Rattle.pick_core.specs.Sensors.{list_of}

-- ---- the nodes along a path

-- the child, if there is one, and the nodes below it
abbrev pub then_along : (ℕ → List ℕ) → Option ℕ → List ℕ
then_along below None = []
then_along below (Some child) = child ∷ below child

-- the nodes that a path of positions leads through, from a list on; if a position doesn't exist,
-- the path ends before it. The list is that of the roots, or the children of a node
unfoldable pub nodes_along : SceneView → Option ℕ → List ℕ → List ℕ
nodes_along scene owner [] = []
nodes_along scene owner (p ∷ ps) =
    then_along (λ child. nodes_along scene (Some child) ps) (slice_get (list_of scene owner) p)

-- ---- points along nodes

abbrev pub is_transform_as : Option NodeType → Bool
is_transform_as (Some type.Transform) = true
is_transform_as _ = false

abbrev pub is_transform : SceneView → ℕ → Bool
is_transform scene node = is_transform_as (type_at scene node)

-- a point inside a node, in the coordinates around it: a Transform moves the point
unfoldable pub outside : SceneView → List Fields → ℕ → Vec3 → Vec3
outside scene state node p =
    if is_transform scene node then moved (motion_of (slice_get state node)) p else p

-- a point around a node, in the coordinates inside it
unfoldable pub inside : SceneView → List Fields → ℕ → Vec3 → Vec3
inside scene state node p =
    if is_transform scene node then moved_back (motion_of (slice_get state node)) p else p

-- a point inside the last of these nodes, in the coordinates around the first
unfoldable pub outward : SceneView → List Fields → List ℕ → Vec3 → Vec3
outward scene state [] p = p
outward scene state (node ∷ nodes) p = outside scene state node (outward scene state nodes p)

-- a point around the first of these nodes, in the coordinates inside the last
unfoldable pub inward : SceneView → List Fields → List ℕ → Vec3 → Vec3
inward scene state [] p = p
inward scene state (node ∷ nodes) p = inward scene state nodes (inside scene state node p)

-- ---- lists of sensors

abbrev pub is_switch_as : Option NodeType → Bool
is_switch_as (Some type.Switch) = true
is_switch_as _ = false

abbrev pub is_switch : SceneView → ℕ → Bool
is_switch scene node = is_switch_as (type_at scene node)

abbrev pub has_sensors : SceneView → Option ℕ → Bool
has_sensors scene None = true
has_sensors scene (Some node) = not (is_switch scene node)

-- a list holds a sensor; the children of a Switch don't count
abbrev pub holds : SceneView → Option ℕ → ℕ → Bool
holds scene owner sensor =
    has_sensors scene owner && list_any (λ n. n == sensor) (list_of scene owner)

-- a path leads from a list to one that holds the sensor
unfoldable pub leads_to : SceneView → Option ℕ → List ℕ → ℕ → Bool
leads_to scene owner [] sensor = holds scene owner sensor
leads_to scene owner (p ∷ ps) sensor =
    option_map_or (λ child. leads_to scene (Some child) ps sensor)
    (slice_get (list_of scene owner) p)
    false

abbrev pub if_held : SceneView → Option ℕ → ℕ → Option ℕ
if_held scene owner sensor = if holds scene owner sensor then Some 0 else None

abbrev pub or_here : Option ℕ → Option ℕ → Option ℕ
or_here None here = here
or_here (Some depth) here = Some depth

-- how many positions of a path lead from a list to the lowest list along the path that holds the
-- sensor
unfoldable pub depth_along : SceneView → ℕ → Option ℕ → List ℕ → Option ℕ
depth_along scene sensor owner [] = None
depth_along scene sensor owner (p ∷ ps) =
    or_here
    (option_map (λ depth. depth + 1)
    (option_and_then (λ child. depth_along scene sensor (Some child) ps)
    (slice_get (list_of scene owner) p)))
    (if_held scene owner sensor)
