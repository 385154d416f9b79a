-- How often the nodes of a scene appear, and which nodes need a DEF (ISO/IEC 19776-2, DEF and USE).
use Rattle.std.specs.Prelude.{ℕ, ◌==◌, ◌||◌, Bool, List, [], ◌∷◌, ◌++◌, is_some, length, map, nat_le, count_by, flat_map}
use Rattle.std.specs.List.{range_with_len}
use Rattle.scene_core.specs.Deep.{linked}
use Rattle.scene_core.specs.declared.scene.Route.{Route}
use Rattle.scene_core.specs.Scene.{SceneView, name_at, rows_at, value_at}

-- ---- every appearance

-- the nodes in the fields of a node
abbrev pub nodes_within : SceneView → ℕ → List ℕ
nodes_within s n =
    flat_map (λ number. linked (value_at s n number)) (range_with_len 0 (length (rows_at s n)))

-- the nodes as they appear in the text: among the roots and the helpers, and in the fields of each
-- node
abbrev pub places : SceneView → List ℕ
places s = s.roots ++ s.helpers ++ flat_map (nodes_within s) (range_with_len 0 (length s.nodes))

abbrev pub ends_of : Route → List ℕ
ends_of r = r.source.node ∷ r.target.node ∷ []

-- ---- which nodes need a name

abbrev pub times : ℕ → List ℕ → ℕ
times n ns = count_by (λ m. m == n) ns

-- the label is the node's DEF name, or the node is an end of a route, or it appears at least twice
abbrev pub is_named : SceneView → List Route → ℕ → Bool
is_named s routes n =
    is_some (name_at s n)
    || (nat_le 1 (times n (flat_map ends_of routes)) || nat_le 2 (times n (places s)))

-- by node number
unfoldable pub named : SceneView → List Route → List Bool
named s routes = map (is_named s routes) (range_with_len 0 (length s.nodes))
