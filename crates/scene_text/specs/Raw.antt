-- How values without nodes are written: a single value bare, a list in brackets (ISO/IEC 19776-2,
-- field values).
use Rattle.std.specs.Prelude.{ℕ, ℤ, pos, ◌*ℤ◌, Bool, List, [], ◌∷◌}
use Rattle.std.specs.List.{flat_map}
use Rattle.x3d_values.specs.declared.value.Value.{Value}
use Rattle.x3d_values.specs.declared.value.Value.TheVariants.{SFBool, SFInt32, SFFloat, SFTime, SFString, SFVec2f, SFVec3f, SFColor, SFNode, MFBool, MFInt32, MFFloat, MFTime, MFString, MFVec2f, MFVec3f, MFColor, MFNode}
pub use Rattle.x3d_values.specs.Vectors.{number_run, pair_run, vector_run, color_run}
use Rattle.classic_tree.specs.declared.tree.RawValue.{RawValue}
use Rattle.classic_tree.specs.declared.tree.RawValue.TheVariants as raw

-- a whole number, in millionths
abbrev pub in_millionths : ℤ → ℤ
in_millionths number = number *ℤ pos 1000000

abbrev pub integer_run : ℤ → List ℤ
integer_run number = in_millionths number ∷ []

abbrev pub truth_list : {N : Type 0} → List Bool → RawValue N
truth_list [] = raw.EmptyList
truth_list (truth ∷ truths) = raw.TruthList (truth ∷ truths)

abbrev pub string_list : {N : Type 0} → List (List ℕ) → RawValue N
string_list [] = raw.EmptyList
string_list (text ∷ texts) = raw.StringList (text ∷ texts)

abbrev pub number_list : {N : Type 0} → List ℤ → RawValue N
number_list [] = raw.EmptyList
number_list (number ∷ numbers) = raw.NumberList (number ∷ numbers)

-- the raw value of a value without nodes
abbrev pub plain : {N : Type 0} → Value → RawValue N
plain (SFBool truth) = raw.Truth truth
plain (SFInt32 number) = raw.Numbers (integer_run number)
plain (SFFloat number) = raw.Numbers (number_run number)
plain (SFTime time) = raw.Numbers (number_run time)
plain (SFString text) = raw.String text
plain (SFVec2f v) = raw.Numbers (pair_run v)
plain (SFVec3f v) = raw.Numbers (vector_run v)
plain (SFColor c) = raw.Numbers (color_run c)
plain (SFNode _) = raw.Null
plain (MFBool truths) = truth_list truths
plain (MFInt32 numbers) = number_list (flat_map integer_run numbers)
plain (MFFloat numbers) = number_list (flat_map number_run numbers)
plain (MFTime times) = number_list (flat_map number_run times)
plain (MFString texts) = string_list texts
plain (MFVec2f vectors) = number_list (flat_map pair_run vectors)
plain (MFVec3f vectors) = number_list (flat_map vector_run vectors)
plain (MFColor colors) = number_list (flat_map color_run colors)
plain (MFNode _) = raw.EmptyList
