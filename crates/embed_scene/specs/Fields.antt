-- The type and the access of a field, as numbers (our choice).
use Rattle.std.specs.Prelude.{ℕ, Option, slice_get}
use Rattle.std.specs.Option.{option_map}
use Rattle.scene_core.specs.Scene.{SceneView, rows_at}
use Rattle.x3d_values.specs.Tables.{FieldRowView}
use Rattle.x3d_values.specs.declared.field_type.Access.{Access}
use Rattle.x3d_values.specs.declared.field_type.Access.TheVariants as access
use Rattle.x3d_values.specs.declared.field_type.FieldType.{FieldType}
use Rattle.x3d_values.specs.declared.field_type.FieldType.TheVariants.{SFBool, SFInt32, SFFloat, SFTime, SFString, SFVec2f, SFVec3f, SFColor, SFNode, MFBool, MFInt32, MFFloat, MFTime, MFString, MFVec2f, MFVec3f, MFColor, MFNode, SFRotation}
use Rattle.embed_scene.specs.declared.fields.FieldAs.{FieldAs}

abbrev pub type_number : FieldType → ℕ
type_number SFBool = 0
type_number SFInt32 = 1
type_number SFFloat = 2
type_number SFTime = 3
type_number SFString = 4
type_number SFVec2f = 5
type_number SFVec3f = 6
type_number SFColor = 7
type_number SFNode = 8
type_number MFBool = 9
type_number MFInt32 = 10
type_number MFFloat = 11
type_number MFTime = 12
type_number MFString = 13
type_number MFVec2f = 14
type_number MFVec3f = 15
type_number MFColor = 16
type_number MFNode = 17
type_number SFRotation = 18

abbrev pub access_number : Access → ℕ
access_number access.InputOnly = 0
access_number access.OutputOnly = 1
access_number access.InputOutput = 2
access_number access.InitializeOnly = 3

abbrev pub field_as : FieldRowView → FieldAs
field_as row =
    record { value_type = type_number row.field_type; access = access_number row.access }

-- the type and the access of a node's field, if there is such a field
abbrev pub field_at : SceneView → ℕ → ℕ → Option FieldAs
field_at scene node field = option_map field_as (slice_get (rows_at scene node) field)
