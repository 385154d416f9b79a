-- The braces in a written scene (ISO/IEC 19776-2, grammar; DEF and USE): those of its nodes, with
-- their types and names.
use Rattle.std.specs.Prelude.{◌≡◌, ◌++◌, ℕ, if◌then◌else◌, List, [], ◌∷◌, length, map, Option, Some, None, Ok}
use Rattle.std.specs.List.{range_with_len}
use Rattle.x3d_values.specs.declared.fields.Fields.{Fields}
use Rattle.x3d_values.specs.declared.node_type.NodeType.TheVariants.{Switch}
use Rattle.proto_flat.specs.declared.flat.Flat.{Flat}
use Rattle.laws_documents.specs.Closings.{Shown, closings, expected}
use Rattle.scene_core.specs.declared.scene.Route.{Route}
use Rattle.scene_core.specs.Building.{scene_of}
use Rattle.scene_core.specs.Scene.{SceneView, label_of, type_at}
use Rattle.scene_text.specs.Places.{is_named}
use Rattle.scene_text.specs.Statements.{scene_document}
use Rattle.laws_written.specs.Writable.{AreKeepable}

-- a node that needs a DEF is named by its label
abbrev pub written_name : SceneView → List Route → ℕ → Option (List ℕ)
written_name s routes n = if is_named s routes n then Some (label_of s n) else None

abbrev pub written_as : SceneView → List Route → ℕ → Shown
written_as s routes n = (type_at s n, written_name s routes n)

-- the helpers, if there are any, are in one more node
abbrev pub as_switch : List ℕ → List Shown
as_switch [] = []
as_switch (n ∷ ns) = (Some Switch, None) ∷ []

-- the types and names of the nodes that are written
abbrev pub written_braces : SceneView → List Route → List Shown
written_braces s routes =
    map (written_as s routes) (range_with_len 0 (length s.nodes)) ++ as_switch s.helpers

-- the n-th braces that close in the text have the type of the scene's node n, and its label as
-- their name if it needs one
abbrev pub WrittenNodesClose : Type 0
WrittenNodesClose =
    (from : Flat) (scene : SceneView) (routes : List Route) (state : List Fields)
    → scene_of from ≡ Ok scene → AreKeepable state
    → map expected (closings (scene_document scene routes state)) ≡ written_braces scene routes
