-- The nodes in the fields of a node have lower numbers than the node (our choice of numbers).
use Rattle.std.specs.Prelude.{◌≡◌, ◌<◌, ℕ, List, Ok}
use Rattle.std.specs.List.{AllByRecursion, flat_map}
use Rattle.proto_flat.specs.declared.flat.Flat.{Flat}
use Rattle.scene_core.specs.declared.scene.SceneNode.{SceneNode}
use Rattle.scene_core.specs.Building.{scene_of}
use Rattle.scene_core.specs.Deep.{linked}
use Rattle.scene_core.specs.Scene.{SceneView, value_at}

-- the nodes in the fields of a node, field by field
abbrev pub children : SceneNode → List ℕ
children node = flat_map linked node.values

-- this holds in the scene of a document
abbrev pub ChildrenAreLower : Type 0
ChildrenAreLower =
    (flat : Flat) (scene : SceneView) → scene_of flat ≡ Ok scene
    → (n field : ℕ) → AllByRecursion (λ child. child < n) (linked (value_at scene n field))
