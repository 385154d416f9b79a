-- The values that a field may hold, and that a written value is read as itself (ISO/IEC 19775-1,
-- field types; ISO/IEC 19776-2, field values).
use Rattle.std.specs.Prelude.{◌≡◌, ℕ, ◌-◌, ◌^◌, ◌&&◌, ℤ, pos, negsuc, int_le, Bool, true, List, [], Ok, map, Some, ◌∷◌}
use Rattle.std.specs.List.{AllByRecursion, flat_map, list_all}
use Rattle.std.specs.Str.{is_utf8}
use Rattle.x3d_values.specs.declared.value.Value.{Value}
use Rattle.x3d_values.specs.declared.value.Value.TheVariants.{SFInt32, SFFloat, SFTime, SFString, SFVec2f, SFVec3f, SFColor, SFNode, MFNode, MFInt32, MFFloat, MFTime, MFString, MFVec2f, MFVec3f, MFColor}
use Rattle.x3d_values.specs.Ranges.{coordinate_fits}
pub use Rattle.x3d_values.specs.Ranges.{is_time}
use Rattle.x3d_values.specs.Values.{type_of, nodes_of}
use Rattle.classic_tree.specs.declared.tree.RawValue.{RawValue}
use Rattle.classic_tree.specs.declared.tree.RawValue.TheVariants as raw
use Rattle.scene_values.specs.Typing.{called, typed}
use Rattle.scene_text.specs.Raw.{pair_run, vector_run, color_run, plain}

-- a whole number of 32 bits
abbrev pub is_int32 : ℤ → Bool
is_int32 n = int_le (negsuc (2 ^ 31 - 1)) n && int_le n (pos (2 ^ 31 - 1))

-- a number of at most 10^15 millionths, positive or negative
abbrev pub is_number : ℤ → Bool
is_number = coordinate_fits

-- the numbers are in the range of the value's type, and the texts are UTF-8
abbrev pub is_sound : Value → Bool
is_sound (SFInt32 number) = is_int32 number
is_sound (SFFloat number) = is_number number
is_sound (SFTime time) = is_time time
is_sound (SFString text) = is_utf8 text
is_sound (SFVec2f v) = list_all is_number (pair_run v)
is_sound (SFVec3f v) = list_all is_number (vector_run v)
is_sound (SFColor c) = list_all is_number (color_run c)
is_sound (MFInt32 numbers) = list_all is_int32 numbers
is_sound (MFFloat numbers) = list_all is_number numbers
is_sound (MFTime times) = list_all is_time times
is_sound (MFString texts) = list_all is_utf8 texts
is_sound (MFVec2f vectors) = list_all is_number (flat_map pair_run vectors)
is_sound (MFVec3f vectors) = list_all is_number (flat_map vector_run vectors)
is_sound (MFColor colors) = list_all is_number (flat_map color_run colors)
is_sound _ = true

-- a sound value without nodes, written and read by the type of its field, is the same value
abbrev pub WrittenValuesAreTyped : Type 0
WrittenValuesAreTyped =
    (v : Value) (numbers : List ℕ) → nodes_of v ≡ [] → is_sound v ≡ true
    → typed (type_of v) (plain v) numbers ≡ Ok v

-- a value as it is written, with each node replaced by what `put` gives for its number
abbrev pub placed : (ℕ → ℕ) → Value → RawValue ℕ
placed put (SFNode (Some n)) = raw.Node (put n)
placed put (MFNode (n ∷ ns)) = raw.NodeList (map put (n ∷ ns))
placed put value = plain value

-- the same for values with nodes, if the scene gives each replaced node its old number
abbrev pub WrittenNodesAreTyped : Type 0
WrittenNodesAreTyped =
    (v : Value) (put : ℕ → ℕ) (numbers : List ℕ)
    → AllByRecursion (λ n. called numbers (put n) ≡ n) (nodes_of v) → is_sound v ≡ true
    → typed (type_of v) (placed put v) numbers ≡ Ok v
