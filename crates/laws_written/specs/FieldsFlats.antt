-- The fields in the flat form of a written scene (ISO/IEC 19775-1, object model, fields): those of
-- the scene's nodes.
use Rattle.std.specs.Prelude.{◌≡◌, ◌≤◌, ◌^◌, ◌++◌, ℕ, List, [], ◌∷◌, length, map, Ok}
use Rattle.std.specs.List.{range_with_len}
use Rattle.x3d_values.specs.declared.fields.Fields.{Fields}
use Rattle.proto_flat.specs.declared.flat.Flat.{Flat}
use Rattle.proto_flat.specs.declared.flat.FlatField.{FlatField}
use Rattle.proto_flat.specs.declared.flat.FlatNode.{FlatNode}
use Rattle.laws_documents.specs.Signatures.{Signature, signatures}
use Rattle.proto_meaning.specs.Flat.{flat}
use Rattle.scene_core.specs.declared.scene.Route.{Route}
use Rattle.scene_core.specs.Building.{scene_of}
use Rattle.scene_core.specs.Scene.{SceneView}
use Rattle.scene_text.specs.Statements.{scene_document}
use Rattle.laws_written.specs.Writable.{AreKeepable}
use Rattle.laws_written.specs.Distinct.{HaveDistinctFields}
use Rattle.laws_written.specs.Fields.{children_field, written_fields, written_interface}

abbrev pub node_fields : FlatNode → List FlatField
node_fields node = node.fields

abbrev pub node_interface : FlatNode → List Signature
node_interface node = signatures node.interface

-- the helpers, if there are any, are in one more node
abbrev pub switch_fields : List ℕ → List (List FlatField)
switch_fields [] = []
switch_fields (n ∷ ns) = (children_field (n ∷ ns) ∷ []) ∷ []

-- the node with the helpers declares nothing
abbrev pub switch_interface : List ℕ → List (List Signature)
switch_interface [] = []
switch_interface (n ∷ ns) = [] ∷ []

-- the n-th node of the flat form has the fields and the interface of the scene's node n
pub record HasFieldsOf (s : SceneView) (state : List Fields) (f : Flat) : Type 0 where
  -- the nodes in the fields have their numbers in the scene
  pub fields : map node_fields f.nodes
      ≡ map (written_fields s state) (range_with_len 0 (length s.nodes)) ++ switch_fields s.helpers
  pub interfaces : map node_interface f.nodes
      ≡ map (written_interface s) (range_with_len 0 (length s.nodes)) ++ switch_interface s.helpers

-- if the document that a document's scene is written as has a flat form, then HasFieldsOf holds
abbrev pub WrittenFieldsStay : Type 0
WrittenFieldsStay =
    (from : Flat) (scene : SceneView) (routes : List Route) (state : List Fields) (again : Flat)
    → scene_of from ≡ Ok scene → length scene.nodes ≤ 2 ^ 64 → AreKeepable state
    → HaveDistinctFields scene
    → flat (scene_document scene routes state) ≡ Ok again → HasFieldsOf scene state again
