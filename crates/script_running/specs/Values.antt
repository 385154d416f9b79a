-- The values that scripts receive and send, as three whole numbers; numbers that a type doesn't use
-- are 0 (our choice).
use Rattle.std.specs.Prelude.{◌^◌, ◌-◌, ℤ, pos, neg_ℤ, Bool, true, false, List, [], ◌∷◌}
use Rattle.std.specs.Int.{int_max, int_min}
use Rattle.x3d_values.specs.declared.field_type.FieldType.{FieldType}
use Rattle.x3d_values.specs.declared.field_type.FieldType.TheVariants as types
use Rattle.x3d_values.specs.declared.value.Value.{Value}
use Rattle.x3d_values.specs.declared.value.Value.TheVariants.{SFBool, SFInt32, SFFloat, SFTime, SFVec3f}
use Rattle.script_host.specs.Behaviour.{is_one}

-- TRUE is 1
abbrev pub number_of_truth : Bool → ℤ
number_of_truth true = pos 1
number_of_truth false = pos 0

abbrev pub one_number : ℤ → List ℤ
one_number number = number ∷ pos 0 ∷ pos 0 ∷ []

-- the numbers of a value; zeros if no script takes or sends its type
abbrev pub numbers_of : Value → List ℤ
numbers_of (SFBool truth) = one_number (number_of_truth truth)
numbers_of (SFInt32 number) = one_number number
numbers_of (SFFloat number) = one_number number
numbers_of (SFTime time) = one_number time
numbers_of (SFVec3f place) = place.x ∷ place.y ∷ place.z ∷ []
numbers_of _ = one_number (pos 0)

-- the nearest 32-bit integer; a script sends no other
abbrev pub as_integer : ℤ → ℤ
as_integer z = int_max (neg_ℤ (pos (2 ^ 31))) (int_min z (pos (2 ^ 31 - 1)))

-- the value of that type with these numbers; FALSE if no script sends the type
abbrev pub value_by : FieldType → ℤ → ℤ → ℤ → Value
value_by types.SFBool x y z = SFBool (is_one x)
value_by types.SFInt32 x y z = SFInt32 (as_integer x)
value_by types.SFFloat x y z = SFFloat x
value_by types.SFTime x y z = SFTime x
value_by types.SFVec3f x y z = SFVec3f (record { x = x; y = y; z = z })
value_by _ x y z = SFBool false

abbrev pub value_of : FieldType → List ℤ → Value
value_of t (x ∷ y ∷ z ∷ []) = value_by t x y z
value_of t _ = SFBool false
