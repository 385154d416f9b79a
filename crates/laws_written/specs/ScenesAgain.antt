-- The nodes of a numbered scene get the same numbers again (our choice of numbers).
use Rattle.std.specs.Prelude.{◌≡◌, ℕ, ◌+◌, ◌++◌, true, List, [], ◌∷◌, length, replicate, Some, slice_get, Ok}
use Rattle.std.specs.List.{range_with_len}
use Rattle.proto_flat.specs.declared.flat.Flat.{Flat}
use Rattle.proto_flat.specs.declared.flat.FlatNode.{FlatNode}
use Rattle.scene_core.specs.declared.numbering.Numbering.{Numbering}
use Rattle.scene_core.specs.declared.scene.SceneNode.{SceneNode}
use Rattle.scene_core.specs.Building.{scene_of}
use Rattle.scene_core.specs.Numbers.{numbering}
use Rattle.scene_core.specs.Parts.{parts_of}
use Rattle.scene_core.specs.Scene.{SceneView}
use Rattle.laws_written.specs.Children.{children}

-- a number of nodes have appeared, and the number of each is its place
abbrev pub in_place : ℕ → Numbering
in_place count = record {
  opened = replicate count true;
  order = range_with_len 0 count;
  numbers = range_with_len 0 count;
}

-- each of these nodes contains the nodes that the scene's node with that number contains
abbrev pub HaveChildren : SceneView → List FlatNode → Type 0
HaveChildren scene nodes =
    (n : ℕ) (node : SceneNode) → slice_get scene.nodes n ≡ Some node
    → parts_of nodes n ≡ children node

-- with the scene's number of nodes, its roots and its helpers, the number of each node is its place
abbrev pub NumberedAgain : Type 0
NumberedAgain =
    (flat : Flat) (scene : SceneView) (nodes : List FlatNode) → scene_of flat ≡ Ok scene
    → length nodes ≡ length scene.nodes → HaveChildren scene nodes
    → numbering nodes scene.roots scene.helpers ≡ in_place (length nodes)

-- the same holds if the helpers are in one more node, which is one more root
abbrev pub NumberedUnderRoot : Type 0
NumberedUnderRoot =
    (flat : Flat) (scene : SceneView) (nodes : List FlatNode) → scene_of flat ≡ Ok scene
    → length nodes ≡ length scene.nodes + 1 → HaveChildren scene nodes
    → parts_of nodes (length scene.nodes) ≡ scene.helpers
    → numbering nodes (scene.roots ++ length scene.nodes ∷ []) [] ≡ in_place (length nodes)
