-- The fields of a node have numbers of 16 bits (our choice), which limits the number of fields.
use Rattle.std.specs.Prelude.{nat_lt, Bool, List, length}
use Rattle.std.specs.List.{list_any}
use Rattle.scene_core.specs.declared.scene.SceneNode.{SceneNode}
use Rattle.scene_core.specs.Shape.{most_declared}

-- the node declares more fields than there are numbers for
abbrev pub is_wide : SceneNode → Bool
is_wide node = nat_lt (most_declared node.node_type) (length node.declared)

abbrev pub any_wide : List SceneNode → Bool
any_wide nodes = list_any is_wide nodes
