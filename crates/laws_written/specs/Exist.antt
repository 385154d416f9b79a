-- What is written of a scene has a scene again (ISO/IEC 19775-1, scene graph), within the limits of
-- size.
use Rattle.std.specs.Prelude.{◌≡◌, ◌⊎◌, ◌<◌, ◌≤◌, ◌^◌, ℕ, true, List, length, Some, Ok, Err, slice_get}
use Rattle.x3d_values.specs.declared.fields.Fields.{Fields}
use Rattle.x3d_values.specs.declared.node_type.NodeType.{NodeType}
use Rattle.x3d_values.specs.declared.value.Value.{Value}
use Rattle.x3d_values.specs.Kept.{field_value}
use Rattle.x3d_values.specs.Ranges.{max_depth, max_places}
use Rattle.x3d_values.specs.Tables.{FieldRowView, rows}
use Rattle.proto_flat.specs.declared.flat.Flat.{Flat}
use Rattle.proto_meaning.specs.Flat.{flat}
use Rattle.scene_core.specs.declared.fault.SceneFaultKind.TheVariants.{TooDeep, TooMany}
use Rattle.scene_core.specs.declared.numbering.Numbering.{Numbering}
use Rattle.scene_core.specs.declared.scene.Route.{Route}
use Rattle.scene_core.specs.declared.scene.SceneNode.{SceneNode}
use Rattle.scene_core.specs.Building.{called, nodes_of, scene_of}
use Rattle.scene_core.specs.Faults.{fault}
use Rattle.scene_core.specs.Numbers.{numbering}
use Rattle.scene_core.specs.Places.{places}
use Rattle.scene_core.specs.Scene.{SceneView, state_of, type_at}
use Rattle.scene_core.specs.Typed.{in_range}
use Rattle.scene_text.specs.Statements.{scene_document}
use Rattle.laws_written.specs.Writable.{AreKeepable}
use Rattle.laws_written.specs.Distinct.{HaveDistinctFields}
use Rattle.laws_written.specs.Sound.{AreOfType, AreSound}

-- what a node keeps of a field of its type is in the range of that field
abbrev pub AreInRange : SceneView → List Fields → Type 0
AreInRange s state =
    (n field : ℕ) (t : NodeType) (e : FieldRowView) (fields : Fields) (v : Value)
    → type_at s n ≡ Some t → slice_get (rows t) field ≡ Some e → slice_get state n ≡ Some fields
    → field_value fields field ≡ Some v → in_range e.name v ≡ true

-- what nodes keep before any event is in range
abbrev pub OpeningsAreInRange : Type 0
OpeningsAreInRange =
    (flat : Flat) (s : SceneView) → scene_of flat ≡ Ok s → AreInRange s (state_of s)

abbrev pub numbers_of : Flat → Numbering
numbers_of flat = numbering flat.nodes flat.roots flat.helpers

-- the nodes of a document are made, and are at too many places of the scene
pub record IsAtTooManyPlaces (flat : Flat) : Type 0 where
  pub nodes : List SceneNode
  pub are_nodes : nodes_of flat.nodes (numbers_of flat) ≡ Ok nodes
  pub many : max_places < places max_depth nodes (called (numbers_of flat).numbers flat.roots)

-- a scene, or the fault that chains are too long, or that there are too many places: TooMany isn't
-- for sensors or fields
abbrev pub IsSceneOrLimit : Flat → Type 0
IsSceneOrLimit flat =
    ((scene : SceneView) × (scene_of flat ≡ Ok scene))
    ⊎ ((scene_of flat ≡ Err (fault TooDeep 0))
    ⊎ ((scene_of flat ≡ Err (fault TooMany 0)) × IsAtTooManyPlaces flat))

-- if a document's scene is written and what is written has a flat form, this has a scene, or a
-- limit of size is the only fault
abbrev pub WrittenScenesExist : Type 0
WrittenScenesExist =
    (from : Flat) (scene : SceneView) (routes : List Route) (state : List Fields) (again : Flat)
    → scene_of from ≡ Ok scene → length scene.nodes ≤ 2 ^ 64 → AreKeepable state
    → AreOfType scene state → AreInRange scene state → AreSound scene → HaveDistinctFields scene
    → flat (scene_document scene routes state) ≡ Ok again → IsSceneOrLimit again
