-- Chains of nodes, where each node is in a node field of the previous one (the limit of their
-- length is our choice).
use Rattle.std.specs.Prelude.{ℕ, ◌+◌, zero, suc, Bool, true, false, min, max, List, [], map, Option, Some, None, slice_index_or}
use Rattle.std.specs.List.{fold, list_any}
use Rattle.x3d_values.specs.declared.value.Value.{Value}
use Rattle.x3d_values.specs.Values.{nodes_of}
use Rattle.x3d_values.specs.Ranges.{max_depth}
use Rattle.scene_core.specs.declared.scene.SceneNode.{SceneNode}

-- the nodes in a field
abbrev pub linked : Option Value → List ℕ
linked (Some value) = nodes_of value
linked None = []

-- one of these nodes is in a field of the node
abbrev pub leads_to : List Bool → SceneNode → Bool
leads_to these node =
    list_any (λ value. list_any (λ n. slice_index_or these n false) (linked value)) node.values

-- for each node, whether a chain of more than that many nodes begins there
unfoldable pub deeper_than : List SceneNode → ℕ → List Bool
deeper_than nodes zero = map (λ _. true) nodes
deeper_than nodes (suc d) = map (leads_to (deeper_than nodes d)) nodes

-- some chain is too long
abbrev pub too_deep : List SceneNode → Bool
too_deep nodes = list_any (λ b. b) (deeper_than nodes max_depth)

-- ---- heights: the length in nodes of the longest chain from a node

-- heights stop where a chain is too long
abbrev pub most_height : ℕ
most_height = 65

-- the greatest of a height and the heights of the nodes in a field
abbrev pub raised : List ℕ → ℕ → Option Value → ℕ
raised heights h value = fold (λ h n. max h (slice_index_or heights n 0)) h (linked value)

-- the height of a node, by the heights of the others
abbrev pub height : List ℕ → SceneNode → ℕ
height heights node = min (fold (raised heights) 0 node.values + 1) most_height
