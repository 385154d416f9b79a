-- A scene that was written and read again (ISO/IEC 19775-1, scene graph): its nodes by their
-- numbers, with what they held when it was written.
use Rattle.std.specs.Prelude.{◌≡◌, ◌<◌, ◌≤◌, ◌^◌, ◌==◌, ◌++◌, ℕ, List, [], ◌∷◌, length, map, Option, Some, None, Ok, slice_get, if◌then◌else◌}
use Rattle.x3d_values.specs.declared.fields.Fields.{Fields}
use Rattle.x3d_values.specs.declared.node_type.NodeType.{NodeType}
use Rattle.x3d_values.specs.declared.node_type.NodeType.TheVariants.{Switch}
use Rattle.x3d_values.specs.declared.value.Value.{Value}
use Rattle.x3d_values.specs.declared.value.Value.TheVariants.{MFNode}
use Rattle.x3d_values.specs.Tables.{FieldRowView, rows}
use Rattle.proto_flat.specs.declared.flat.Flat.{Flat}
use Rattle.proto_meaning.specs.Flat.{flat}
use Rattle.scene_core.specs.declared.scene.Route.{Route}
use Rattle.scene_core.specs.Building.{scene_of}
use Rattle.scene_core.specs.Scene.{SceneView, declared_at, label_of, name_at, number_of, rows_at, types_of, value_at}
use Rattle.scene_core.specs.Typed.{default_of}
use Rattle.scene_text.specs.Statements.{scene_document}
use Rattle.laws_written.specs.Children.{children}
use Rattle.laws_written.specs.Writable.{AreKeepable}
use Rattle.laws_written.specs.Braces.{written_name}
use Rattle.laws_written.specs.Nodes.{written_nodes, written_roots}
use Rattle.laws_written.specs.Distinct.{HaveDistinctFields}
use Rattle.laws_written.specs.Fields.{switch_children, value_now}
use Rattle.laws_written.specs.Sound.{AreSound, AreOfType}

-- the helpers, if there are any, are in one more node
abbrev pub switch_type : List ℕ → List NodeType
switch_type [] = []
switch_type (n ∷ ns) = Switch ∷ []

-- its children are the helpers, and its other fields hold their defaults
abbrev pub switch_value : List ℕ → ℕ → FieldRowView → Option Value
switch_value helpers field e =
    if switch_children == field then Some (MFNode helpers) else default_of e

pub record IsSwitchOf (helpers : List ℕ) (next : SceneView) (n : ℕ) : Type 0 where
  pub label : name_at next n ≡ None
  pub declared : declared_at next n ≡ []
  pub values : (field : ℕ) (e : FieldRowView) → slice_get (rows Switch) field ≡ Some e
      → value_at next n field ≡ switch_value helpers field e

-- the second scene is the first, with what its nodes keep; the routes decide which nodes have a DEF
pub record IsWrittenOf (s : SceneView) (routes : List Route) (state : List Fields)
    (next : SceneView) : Type 0 where
  pub header : next.header ≡ s.header
  -- if there are helpers, the second scene has one more root, and no helpers
  pub roots : next.roots ≡ written_roots s
  pub helpers : next.helpers ≡ []
  -- for each node: its type, declared fields, all fields, and the nodes in it
  pub types : types_of next ≡ types_of s ++ switch_type s.helpers
  pub declared : (n : ℕ) → n < length s.nodes → declared_at next n ≡ declared_at s n
  pub rows : (n : ℕ) → n < length s.nodes → rows_at next n ≡ rows_at s n
  pub children : map children next.nodes ≡ written_nodes s
  -- each field holds what it held: what its node keeps, or else what the scene gives
  pub values : (n field : ℕ) (e : FieldRowView) → slice_get (rows_at s n) field ≡ Some e
      → value_at next n field ≡ value_now s state n field e.access e.field_type
  -- a node has the same label, and keeps it as its name if it was written with a DEF
  pub labels : (n : ℕ) → n < length s.nodes → label_of next n ≡ label_of s n
  pub names : (n : ℕ) → n < length s.nodes → name_at next n ≡ written_name s routes n
  -- the helpers, if there are any, are in the last node
  pub switch : (h : ℕ) (hs : List ℕ) → s.helpers ≡ h ∷ hs
      → IsSwitchOf (h ∷ hs) next (length s.nodes)
  -- the n-th node that was read is the n-th node of the scene
  pub numbers : (n : ℕ) → n < length next.nodes → number_of next n ≡ Some n

-- if a document's scene is written and what is written has a flat form with a scene, that scene is
-- the one that was written
abbrev pub WrittenScenesAreAgain : Type 0
WrittenScenesAreAgain =
    (from : Flat) (scene : SceneView) (routes : List Route) (state : List Fields) (again : Flat)
    (next : SceneView) → scene_of from ≡ Ok scene → length scene.nodes ≤ 2 ^ 64
    → AreKeepable state → AreOfType scene state → AreSound scene → HaveDistinctFields scene
    → flat (scene_document scene routes state) ≡ Ok again → scene_of again ≡ Ok next
    → IsWrittenOf scene routes state next
