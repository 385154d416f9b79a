-- The values of fields as bytes (our choice). Every value has defined bytes. A value is read back,
-- by the type of its field, if it is in the range of that type.
use Rattle.std.specs.Prelude.{ℕ, ℤ, Bool, false, List, [], Option, Some, None, nat_le, unsigned_abs}
use Rattle.std.specs.Int.{w32, w64}
use Rattle.std.specs.Str.{is_utf8}
use Rattle.x3d_values.specs.Ranges.{max_coordinate, max_time}
use Rattle.byte_codec.specs.Codec.{Codec, ◌>>?◌, at_front, only_if, refined, named, checked, pair, counted, string, signed, truth}
use Rattle.x3d_values.specs.declared.vector.Vec2.{Vec2}
use Rattle.x3d_values.specs.declared.vector.Vec3.{Vec3}
use Rattle.x3d_values.specs.declared.vector.Color.{Color}
use Rattle.x3d_values.specs.declared.field_type.FieldType.{FieldType}
use Rattle.x3d_values.specs.declared.field_type.FieldType.TheVariants as types
use Rattle.x3d_values.specs.declared.value.Value.{Value}
use Rattle.x3d_values.specs.declared.value.Value.TheVariants.{SFBool, SFInt32, SFFloat, SFTime, SFString, SFVec2f, SFVec3f, SFColor, SFNode, MFBool, MFInt32, MFFloat, MFTime, MFString, MFVec2f, MFVec3f, MFColor, MFNode}

-- only the values that pass a test
abbrev pub restricted : {A : Type 0} → (A → Bool) → Codec A → Codec A
restricted p c = refined (only_if p) (λ x. x) p c

-- ---- numbers

abbrev pub is_within : ℕ → ℤ → Bool
is_within limit z = nat_le (unsigned_abs z) limit

-- a number of a size up to the limit, in 64 bits
abbrev pub within : ℕ → Codec ℤ
within limit = restricted (is_within limit) (signed w64)

-- numbers are of sizes up to 10^15 millionths
abbrev pub number : Codec ℤ
number = within max_coordinate

-- times are of sizes up to 10^18 microseconds
abbrev pub time : Codec ℤ
time = within max_time

-- -- values made of numbers and bytes

-- a string whose bytes are UTF-8
unfoldable pub text : Codec (List ℕ)
text = checked is_utf8 string

-- x, y
unfoldable pub vector2 : Codec Vec2
vector2 = named (λ t. record { x = t.0; y = t.1 }) (λ v. (v.x, v.y)) (pair number number)

-- x, y, z
unfoldable pub vector3 : Codec Vec3
vector3 = named (λ t. record { x = t.0; y = t.1.0; z = t.1.1 }) (λ v. (v.x, (v.y, v.z)))
    (pair number (pair number number))

-- red, green, blue
unfoldable pub color : Codec Color
color = named (λ t. record { red = t.0; green = t.1.0; blue = t.1.1 })
    (λ c. (c.red, (c.green, c.blue)))
    (pair number (pair number number))

-- a count in 32 bits, and that many items
abbrev pub list_of : {A : Type 0} → Codec A → Codec (List A)
list_of c = counted w32 c

-- ---- values

-- the bytes of a value; nodes have none
abbrev pub value_text : Value → List ℕ
value_text (SFBool truth_value) = truth.write truth_value
value_text (SFInt32 n) = (signed w32).write n
value_text (SFFloat n) = number.write n
value_text (SFTime t) = time.write t
value_text (SFString s) = text.write s
value_text (SFVec2f v) = vector2.write v
value_text (SFVec3f v) = vector3.write v
value_text (SFColor c) = color.write c
value_text (SFNode _) = []
value_text (MFBool items) = (list_of truth).write items
value_text (MFInt32 items) = (list_of (signed w32)).write items
value_text (MFFloat items) = (list_of number).write items
value_text (MFTime items) = (list_of time).write items
value_text (MFString items) = (list_of text).write items
value_text (MFVec2f items) = (list_of vector2).write items
value_text (MFVec3f items) = (list_of vector3).write items
value_text (MFColor items) = (list_of color).write items
value_text (MFNode _) = []

-- what a codec reads, as a value
abbrev pub read_as : {A : Type 0} → Codec A → (A → Value) → List ℕ → Option (Value × List ℕ)
read_as c make bytes = c.read bytes >>? at_front (λ x. Some (make x))

-- the value of a field of lists of that type; none for a list of nodes
unfoldable pub list_at : FieldType → List ℕ → Option (Value × List ℕ)
list_at types.MFBool bytes = read_as (list_of truth) (λ x. MFBool x) bytes
list_at types.MFInt32 bytes = read_as (list_of (signed w32)) (λ x. MFInt32 x) bytes
list_at types.MFFloat bytes = read_as (list_of number) (λ x. MFFloat x) bytes
list_at types.MFTime bytes = read_as (list_of time) (λ x. MFTime x) bytes
list_at types.MFString bytes = read_as (list_of text) (λ x. MFString x) bytes
list_at types.MFVec2f bytes = read_as (list_of vector2) (λ x. MFVec2f x) bytes
list_at types.MFVec3f bytes = read_as (list_of vector3) (λ x. MFVec3f x) bytes
list_at types.MFColor bytes = read_as (list_of color) (λ x. MFColor x) bytes
list_at _ bytes = None

-- the value of a field of that type; none for a field of nodes or a rotation
unfoldable pub value_at : FieldType → List ℕ → Option (Value × List ℕ)
value_at types.SFBool bytes = read_as truth (λ x. SFBool x) bytes
value_at types.SFInt32 bytes = read_as (signed w32) (λ x. SFInt32 x) bytes
value_at types.SFFloat bytes = read_as number (λ x. SFFloat x) bytes
value_at types.SFTime bytes = read_as time (λ x. SFTime x) bytes
value_at types.SFString bytes = read_as text (λ x. SFString x) bytes
value_at types.SFVec2f bytes = read_as vector2 (λ x. SFVec2f x) bytes
value_at types.SFVec3f bytes = read_as vector3 (λ x. SFVec3f x) bytes
value_at types.SFColor bytes = read_as color (λ x. SFColor x) bytes
value_at t bytes = list_at t bytes

-- the value is of that type and in the type's range
unfoldable pub value_fits : FieldType → Value → Bool
value_fits types.SFBool (SFBool x) = truth.fits x
value_fits types.SFInt32 (SFInt32 x) = (signed w32).fits x
value_fits types.SFFloat (SFFloat x) = number.fits x
value_fits types.SFTime (SFTime x) = time.fits x
value_fits types.SFString (SFString x) = text.fits x
value_fits types.SFVec2f (SFVec2f x) = vector2.fits x
value_fits types.SFVec3f (SFVec3f x) = vector3.fits x
value_fits types.SFColor (SFColor x) = color.fits x
value_fits types.MFBool (MFBool x) = (list_of truth).fits x
value_fits types.MFInt32 (MFInt32 x) = (list_of (signed w32)).fits x
value_fits types.MFFloat (MFFloat x) = (list_of number).fits x
value_fits types.MFTime (MFTime x) = (list_of time).fits x
value_fits types.MFString (MFString x) = (list_of text).fits x
value_fits types.MFVec2f (MFVec2f x) = (list_of vector2).fits x
value_fits types.MFVec3f (MFVec3f x) = (list_of vector3).fits x
value_fits types.MFColor (MFColor x) = (list_of color).fits x
value_fits _ _ = false

-- a value of a field of that type
abbrev pub value_codec : FieldType → Codec Value
value_codec t = record { write = value_text; read = value_at t; fits = value_fits t }
