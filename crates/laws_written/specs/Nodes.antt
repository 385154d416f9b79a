-- How a written scene is read (ISO/IEC 19776-2, DEF and USE): each node closes in the order of its
-- number, and each USE is the node that it refers to.
use Rattle.std.specs.Prelude.{◌≡◌, ◌≤◌, ◌^◌, ◌++◌, ℕ, List, [], ◌∷◌, length, map, Ok}
use Rattle.x3d_values.specs.declared.fields.Fields.{Fields}
use Rattle.proto_flat.specs.declared.flat.Flat.{Flat}
use Rattle.laws_documents.specs.Uses.{Reading, read, some}
use Rattle.scene_core.specs.declared.scene.Route.{Route}
use Rattle.scene_core.specs.Building.{scene_of}
use Rattle.scene_core.specs.Scene.{SceneView}
use Rattle.scene_text.specs.Statements.{scene_document}
use Rattle.laws_written.specs.Children.{children}
use Rattle.laws_written.specs.Writable.{AreKeepable}

-- the helpers, if there are any, are in one more node
abbrev pub in_switch : List ℕ → List (List ℕ)
in_switch [] = []
in_switch (n ∷ ns) = (n ∷ ns) ∷ []

-- the node with the helpers is one more root
abbrev pub switch_root : ℕ → List ℕ → List ℕ
switch_root number [] = []
switch_root number (n ∷ ns) = number ∷ []

-- the nodes that each written node contains
abbrev pub written_nodes : SceneView → List (List ℕ)
written_nodes s = map children s.nodes ++ in_switch s.helpers

abbrev pub written_roots : SceneView → List ℕ
written_roots s = s.roots ++ switch_root (length s.nodes) s.helpers

-- the n-th braces that close in the text are those of the scene's node n: they contain the nodes
-- that node n contains, and each USE, in a node or as a root, is the node that it refers to
abbrev pub AreNodesRead : SceneView → Reading → Type 0
AreNodesRead s r =
    (r.closed ≡ map (map some) (written_nodes s)) × (r.here ≡ map some (written_roots s))

-- this holds for what is written of a document's scene, with any routes
abbrev pub WrittenNodesAreRead : Type 0
WrittenNodesAreRead =
    (flat : Flat) (scene : SceneView) (routes : List Route) (state : List Fields)
    → scene_of flat ≡ Ok scene → length scene.nodes ≤ 2 ^ 64 → AreKeepable state
    → AreNodesRead scene (read (scene_document scene routes state))
