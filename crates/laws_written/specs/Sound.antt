-- What the fields of a scene may hold (ISO/IEC 19775-1, field types).
use Rattle.std.specs.Prelude.{◌≡◌, ℕ, true, List, Some, Ok, slice_get}
use Rattle.x3d_values.specs.declared.fields.Fields.{Fields}
use Rattle.x3d_values.specs.declared.value.Value.{Value}
use Rattle.x3d_values.specs.Kept.{field_value}
use Rattle.x3d_values.specs.Tables.{FieldRowView}
use Rattle.x3d_values.specs.Values.{type_of}
use Rattle.proto_flat.specs.declared.flat.Flat.{Flat}
use Rattle.scene_core.specs.Building.{scene_of}
use Rattle.scene_core.specs.Scene.{SceneView, rows_at, state_of, value_at}
use Rattle.laws_documents.specs.Named.{IsNamed}
use Rattle.laws_written.specs.Values.{is_sound}

-- the values that the scene gives have numbers in the range of their type, and texts in UTF-8
abbrev pub AreSound : SceneView → Type 0
AreSound s = (n field : ℕ) (v : Value) → value_at s n field ≡ Some v → is_sound v ≡ true

-- what a node keeps of a field is of the field's type
abbrev pub AreOfType : SceneView → List Fields → Type 0
AreOfType s state =
    (n field : ℕ) (e : FieldRowView) (fields : Fields) (v : Value)
    → slice_get (rows_at s n) field ≡ Some e → slice_get state n ≡ Some fields
    → field_value fields field ≡ Some v → type_of v ≡ e.field_type

-- -- when they hold it

-- in the scene of a document whose names are names and whose texts are UTF-8
abbrev pub DocumentScenesAreSound : Type 0
DocumentScenesAreSound =
    (flat : Flat) (scene : SceneView) → IsNamed flat → scene_of flat ≡ Ok scene → AreSound scene

-- before any event
abbrev pub OpeningsAreOfType : Type 0
OpeningsAreOfType =
    (flat : Flat) (s : SceneView) → scene_of flat ≡ Ok s → AreOfType s (state_of s)
