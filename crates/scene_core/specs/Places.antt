-- Places and sensors (the limits of their numbers are our choice). A place is a root, or a child of
-- a place by a list `children`. A node has as many places as there are paths to it.
use Rattle.std.specs.Prelude.{ℕ, ◌+◌, ◌++◌, ◌==◌, zero, suc, Bool, true, false, ◌||◌, nat_lt, min, List, [], ◌∷◌, length, map, Option, Some, None, codes, slice_get, slice_index_or, if◌then◌else◌}
use Rattle.std.specs.List.{list_any, fold, sum_by}
use Rattle.std.specs.Option.{option_and_then, option_map_or}
use Rattle.x3d_values.specs.Ranges.{max_places, max_sensors}
use Rattle.x3d_values.specs.declared.node_type.NodeType.{NodeType}
use Rattle.x3d_values.specs.declared.node_type.NodeType.TheVariants.{PlaneSensor, Switch, TouchSensor}
use Rattle.x3d_values.specs.declared.table.FieldRow.{FieldRow}
use Rattle.x3d_values.specs.Tables.{rows, row_named}
use Rattle.scene_core.specs.declared.scene.SceneNode.{SceneNode}
use Rattle.scene_core.specs.Scene.{nodes_in}

-- the list `children` of a grouping node
abbrev pub children_at : SceneNode → Option FieldRow → List ℕ
children_at node None = []
children_at node (Some row) = nodes_in (option_and_then (λ v. v) (slice_get node.values row.number))

abbrev pub own_children : SceneNode → List ℕ
own_children node = children_at node (row_named 0 (codes "children") (rows node.node_type))

-- for each node, the number of places from one place of it down, itself included, at most that many
-- levels deep
unfoldable pub places_below : List SceneNode → ℕ → List ℕ
places_below nodes zero = map (λ _. 0) nodes
places_below nodes (suc d) =
    map (λ node. 1 + sum_by (λ n. slice_index_or (places_below nodes d) n 0) (own_children node))
    nodes

-- the number of places of a scene whose chains are no longer than `depth`
abbrev pub places : ℕ → List SceneNode → List ℕ → ℕ
places depth nodes roots = sum_by (λ n. slice_index_or (places_below nodes depth) n 0) roots

-- counts stop where there are too many
abbrev pub enough : ℕ
enough = max_places + 1

abbrev pub counted : List ℕ → SceneNode → ℕ
counted counts node =
    min (1 + min (sum_by (λ n. slice_index_or counts n 0) (own_children node)) enough) enough

-- ---- sensors in one list

-- a pointing device sensor
abbrev pub is_pointing : NodeType → Bool
is_pointing TouchSensor = true
is_pointing PlaneSensor = true
is_pointing _ = false

abbrev pub is_sensor : List SceneNode → ℕ → Bool
is_sensor nodes n =
    option_map_or (λ (node : SceneNode). is_pointing node.node_type) (slice_get nodes n) false

-- appends the node, if it is a sensor that isn't among the earlier ones
abbrev pub with_sensor : List SceneNode → List ℕ → ℕ → List ℕ
with_sensor nodes sensors n =
    if is_sensor nodes n
    then (if list_any (λ m. m == n) sensors then sensors else sensors ++ n ∷ []) else sensors

-- the children that are siblings to a pointing device: not those of a Switch, which shows at most
-- one of them, so none is shown beside a sensor
abbrev pub unless_in_switch : NodeType → List ℕ → List ℕ
unless_in_switch Switch ns = []
unless_in_switch _ ns = ns

abbrev pub own_siblings : SceneNode → List ℕ
own_siblings node = unless_in_switch node.node_type (own_children node)

-- the sensors of a list, each once
abbrev pub sensors_in : List SceneNode → List ℕ → List ℕ
sensors_in nodes ns = fold (with_sensor nodes) [] ns

abbrev pub is_crowded : List SceneNode → List ℕ → Bool
is_crowded nodes ns = nat_lt max_sensors (length (sensors_in nodes ns))

-- the list of the roots or a node's siblings have too many sensors
abbrev pub any_crowded : List SceneNode → List ℕ → Bool
any_crowded nodes roots =
    is_crowded nodes roots || list_any (λ node. is_crowded nodes (own_siblings node)) nodes
