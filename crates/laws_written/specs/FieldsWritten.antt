-- The fields between the braces of a written scene.
use Rattle.std.specs.Prelude.{◌≡◌, ℕ, List, [], ◌∷◌, ◌++◌, length, map, Ok}
use Rattle.std.specs.List.{range_with_len}
use Rattle.x3d_values.specs.declared.fields.Fields.{Fields}
use Rattle.proto_flat.specs.declared.flat.Flat.{Flat}
use Rattle.laws_documents.specs.Shapes.{NodeShape, field_shape, shapes}
use Rattle.scene_core.specs.declared.scene.Route.{Route}
use Rattle.scene_core.specs.Building.{scene_of}
use Rattle.scene_core.specs.Scene.{SceneView}
use Rattle.scene_text.specs.Statements.{scene_document}
use Rattle.laws_written.specs.Writable.{AreKeepable}
use Rattle.laws_written.specs.Distinct.{HaveDistinctFields}
use Rattle.laws_written.specs.Fields.{children_field, written_fields, written_interface}

-- the fields of a node, without which nodes they contain
abbrev pub written_shape : SceneView → List Fields → ℕ → NodeShape
written_shape s state n =
    record {
      fields = map field_shape (written_fields s state n);
      interface = written_interface s n;
    }

abbrev pub switch_shape : List ℕ → List NodeShape
switch_shape [] = []
switch_shape (n ∷ ns) =
    record { fields = field_shape (children_field (n ∷ ns)) ∷ []; interface = [] } ∷ []

-- the shapes of all nodes by their numbers, then that of the node with the helpers
abbrev pub written_shapes : SceneView → List Fields → List NodeShape
written_shapes s state =
    map (written_shape s state) (range_with_len 0 (length s.nodes)) ++ switch_shape s.helpers

-- the n-th braces that close contain the fields of the scene's node n, each by a name that has its
-- number there, and with its value
abbrev pub WrittenShapes : Type 0
WrittenShapes =
    (from : Flat) (scene : SceneView) (routes : List Route) (state : List Fields)
    → scene_of from ≡ Ok scene → AreKeepable state → HaveDistinctFields scene
    → shapes (scene_document scene routes state) ≡ written_shapes scene state
