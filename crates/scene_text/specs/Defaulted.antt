-- Whether a value is the default of a field (ISO/IEC 19775-1, the node types of each component).
use Rattle.std.specs.Prelude.{ℕ, ◌==◌, ℤ, pos, Bool, false, not, ◌&&◌, List, [], ◌∷◌, codes, is_none, length, nat_eq}
use Rattle.std.specs.Ordering.{int_eq}
use Rattle.std.specs.Cmp.Lexicographic.{pointwise}
use Rattle.x3d_values.specs.declared.default.FieldDefault.{FieldDefault}
use Rattle.x3d_values.specs.declared.default.FieldDefault.TheVariants as default
use Rattle.x3d_values.specs.declared.vector.Vec2.{Vec2}
use Rattle.x3d_values.specs.declared.vector.Vec3.{Vec3}
use Rattle.x3d_values.specs.declared.vector.Color.{Color}
use Rattle.x3d_values.specs.declared.value.Value.{Value}
use Rattle.x3d_values.specs.declared.value.Value.TheVariants.{SFBool, SFInt32, SFFloat, SFTime, SFString, SFVec2f, SFVec3f, SFColor, SFNode, MFBool, MFInt32, MFFloat, MFTime, MFString, MFVec2f, MFVec3f, MFColor, MFNode}

abbrev pub is_zero : ℤ → Bool
is_zero number = int_eq number (pos 0)

abbrev pub is_black : Color → Bool
is_black c = is_zero c.red && (is_zero c.green && is_zero c.blue)

-- FALSE, 0, the empty string, zeros, no node, no items
abbrev pub says_nothing : Value → Bool
says_nothing (SFBool truth) = not truth
says_nothing (SFInt32 number) = is_zero number
says_nothing (SFFloat number) = is_zero number
says_nothing (SFTime time) = is_zero time
says_nothing (SFString text) = length text == 0
says_nothing (SFVec2f v) = is_zero v.x && is_zero v.y
says_nothing (SFVec3f v) = is_zero v.x && (is_zero v.y && is_zero v.z)
says_nothing (SFColor c) = is_black c
says_nothing (SFNode node) = is_none node
says_nothing (MFBool truths) = length truths == 0
says_nothing (MFInt32 numbers) = length numbers == 0
says_nothing (MFFloat numbers) = length numbers == 0
says_nothing (MFTime times) = length times == 0
says_nothing (MFString texts) = length texts == 0
says_nothing (MFVec2f vectors) = length vectors == 0
says_nothing (MFVec3f vectors) = length vectors == 0
says_nothing (MFColor colors) = length colors == 0
says_nothing (MFNode nodes) = length nodes == 0

-- ---- other defaults

abbrev pub is_true : Value → Bool
is_true (SFBool truth) = truth
is_true _ = false

abbrev pub is_integer : ℤ → Value → Bool
is_integer wanted (SFInt32 number) = int_eq number wanted
is_integer wanted _ = false

abbrev pub is_number : ℤ → Value → Bool
is_number wanted (SFFloat number) = int_eq number wanted
is_number wanted _ = false

abbrev pub is_time : ℤ → Value → Bool
is_time wanted (SFTime time) = int_eq time wanted
is_time wanted _ = false

abbrev pub is_pair : Vec2 → Value → Bool
is_pair wanted (SFVec2f v) = int_eq v.x wanted.x && int_eq v.y wanted.y
is_pair wanted _ = false

abbrev pub is_vector : Vec3 → Value → Bool
is_vector wanted (SFVec3f v) = int_eq v.x wanted.x && (int_eq v.y wanted.y && int_eq v.z wanted.z)
is_vector wanted _ = false

abbrev pub is_color : Color → Value → Bool
is_color wanted (SFColor c) =
    int_eq c.red wanted.red && (int_eq c.green wanted.green && int_eq c.blue wanted.blue)
is_color wanted _ = false

abbrev pub is_string : List ℕ → Value → Bool
is_string wanted (SFString text) = pointwise nat_eq text wanted
is_string wanted _ = false

-- a list of one string
abbrev pub is_word : List ℕ → Value → Bool
is_word wanted (MFString (text ∷ [])) = pointwise nat_eq text wanted
is_word wanted _ = false

-- ["EXAMINE" "ANY"]
abbrev pub is_examine_any : Value → Bool
is_examine_any (MFString (first ∷ (second ∷ []))) =
    pointwise nat_eq first (codes "EXAMINE") && pointwise nat_eq second (codes "ANY")
is_examine_any _ = false

-- [0.25 1.6 0.75]
abbrev pub are_standard_sizes : Value → Bool
are_standard_sizes (MFFloat (reach ∷ (height ∷ (step ∷ [])))) =
    int_eq reach (pos 250000) && (int_eq height (pos 1600000) && int_eq step (pos 750000))
are_standard_sizes _ = false

-- [0 0 0]
abbrev pub is_one_black : Value → Bool
is_one_black (MFColor (c ∷ [])) = is_black c
is_one_black _ = false

-- the value equals the default
abbrev pub is_default : FieldDefault → Value → Bool
is_default default.Empty value = says_nothing value
is_default default.True value = is_true value
is_default (default.Int32 number) value = is_integer number value
is_default (default.Float number) value = is_number number value
is_default (default.Time time) value = is_time time value
is_default (default.Vec2f pair) value = is_pair pair value
is_default (default.Vec3f vector) value = is_vector vector value
is_default (default.Color color) value = is_color color value
is_default default.PlainStyle value = is_string (codes "PLAIN") value
is_default default.SerifFamily value = is_word (codes "SERIF") value
is_default default.BeginJustify value = is_word (codes "BEGIN") value
is_default default.StandardAvatar value = are_standard_sizes value
is_default default.ExamineAny value = is_examine_any value
is_default default.BlackSky value = is_one_black value
