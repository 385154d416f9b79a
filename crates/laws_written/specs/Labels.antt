-- Labels tell the nodes of a scene apart (our choice of labels).
use Rattle.std.specs.Prelude.{◌≡◌, ◌<◌, ◌≤◌, ◌^◌, ℕ, length, Ok}
use Rattle.proto_flat.specs.declared.flat.Flat.{Flat}
use Rattle.scene_core.specs.Building.{scene_of}
use Rattle.scene_core.specs.Scene.{SceneView, label_of}

-- no two nodes of a document's scene have the same label
abbrev pub LabelsAreDistinct : Type 0
LabelsAreDistinct =
    (flat : Flat) (scene : SceneView) → scene_of flat ≡ Ok scene → length scene.nodes ≤ 2 ^ 64
    → (m n : ℕ) → m < length scene.nodes → n < length scene.nodes
    → label_of scene m ≡ label_of scene n → m ≡ n
