-- The nodes of a scene by their types.
use Rattle.std.specs.Prelude.{ℕ, Bool, true, false, Option, Some, List, slice_get, length}
use Rattle.std.specs.List.{filter, range_with_len}
use Rattle.std.specs.Option.{option_map_or}
use Rattle.x3d_values.specs.declared.node_type.NodeType.{NodeType}
use Rattle.x3d_values.specs.declared.node_type.NodeType.TheVariants.{Switch, Transform}
use Rattle.react_core.specs.Reaction.{is_time_sensor}
use Rattle.scene_core.specs.Places.{is_pointing}

-- the node of that number exists and has one of these types
abbrev pub is_of : (NodeType → Bool) → List NodeType → ℕ → Bool
is_of wanted kinds node = option_map_or wanted (slice_get kinds node) false

-- the numbers of the nodes of these types, in order
unfoldable pub numbers_of : (NodeType → Bool) → List NodeType → List ℕ
numbers_of wanted kinds = filter (is_of wanted kinds) (range_with_len 0 (length kinds))

-- the node of that number is a time sensor
abbrev pub is_clock : List NodeType → ℕ → Bool
is_clock kinds node = is_of is_time_sensor kinds node

abbrev pub clocks_of : List NodeType → List ℕ
clocks_of kinds = numbers_of is_time_sensor kinds

-- the node of that number is a pointing device sensor
abbrev pub is_sensor : List NodeType → ℕ → Bool
is_sensor kinds node = is_of is_pointing kinds node

abbrev pub pointing_sensors_of : List NodeType → List ℕ
pointing_sensors_of kinds = numbers_of is_pointing kinds

-- a node of this type moves boxes, or shows and hides them
abbrev pub moves_boxes : Option NodeType → Bool
moves_boxes (Some Transform) = true
moves_boxes (Some Switch) = true
moves_boxes _ = false
