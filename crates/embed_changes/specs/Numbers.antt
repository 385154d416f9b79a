-- The numbers of a value: truths as 1 and 0, integers, millionths and microseconds unchanged,
-- vectors and colors part by part, nodes as their numbers. A text has none (our choice).
use Rattle.std.specs.Prelude.{ℕ, ℤ, pos, Bool, true, false, List, [], ◌∷◌, Some, None}
use Rattle.std.specs.List.{flat_map}
use Rattle.x3d_values.specs.declared.value.Value.{Value}
use Rattle.x3d_values.specs.declared.value.Value.TheVariants.{SFBool, SFInt32, SFFloat, SFTime, SFString, SFVec2f, SFVec3f, SFColor, SFNode, MFBool, MFInt32, MFFloat, MFTime, MFString, MFVec2f, MFVec3f, MFColor, MFNode}
use Rattle.x3d_values.specs.Vectors.{number_run, pair_run, vector_run, color_run}

abbrev pub truth_numbers : Bool → List ℤ
truth_numbers true = pos 1 ∷ []
truth_numbers false = pos 0 ∷ []

abbrev pub node_numbers : ℕ → List ℤ
node_numbers node = pos node ∷ []

abbrev pub numbers_of : Value → List ℤ
numbers_of (SFBool truth) = truth_numbers truth
numbers_of (SFInt32 number) = number_run number
numbers_of (SFFloat number) = number_run number
numbers_of (SFTime time) = number_run time
numbers_of (SFString text) = []
numbers_of (SFVec2f v) = pair_run v
numbers_of (SFVec3f v) = vector_run v
numbers_of (SFColor c) = color_run c
numbers_of (SFNode None) = []
numbers_of (SFNode (Some node)) = node_numbers node
numbers_of (MFBool truths) = flat_map truth_numbers truths
numbers_of (MFInt32 numbers) = flat_map number_run numbers
numbers_of (MFFloat numbers) = flat_map number_run numbers
numbers_of (MFTime times) = flat_map number_run times
numbers_of (MFString texts) = []
numbers_of (MFVec2f vectors) = flat_map pair_run vectors
numbers_of (MFVec3f vectors) = flat_map vector_run vectors
numbers_of (MFColor colors) = flat_map color_run colors
numbers_of (MFNode nodes) = flat_map node_numbers nodes
