-- Conversion of raw values by the type of their field (ISO/IEC 19775-1, field types; ISO/IEC
-- 19776-2, field values).
--
-- A single field takes only a bare value. A multiple field takes a list, or a bare value that has
-- the form of exactly one item.
use Rattle.std.specs.Prelude.{◌==◌, ℕ, ◌%◌, ℤ, Bool, List, [], ◌∷◌, length, map, slice_index_or, Option, Some, None, Result, Ok, Err, if◌then◌else◌}
use Rattle.std.specs.List.{list_all}
use Rattle.x3d_values.specs.declared.field_type.FieldType.{FieldType}
use Rattle.x3d_values.specs.declared.field_type.FieldType.TheVariants as field_type
use Rattle.x3d_values.specs.declared.value.Value.{Value}
use Rattle.x3d_values.specs.declared.value.Value.TheVariants as value
use Rattle.classic_tree.specs.declared.tree.RawValue.{RawValue}
use Rattle.classic_tree.specs.declared.tree.RawValue.TheVariants as raw
use Rattle.scene_values.specs.declared.fault.ValueFault.{ValueFault}
use Rattle.scene_values.specs.declared.fault.ValueFault.TheVariants.{WrongType, ValueRange}
use Rattle.scene_values.specs.declared.quantity.Quantity.{Quantity}
use Rattle.scene_values.specs.declared.quantity.Quantity.TheVariants.{Number, Time, Integer}
use Rattle.scene_values.specs.Grouping.{component, pair, vector, color, pairs, vectors, colors}
use Rattle.scene_values.specs.Quantities.{fits, whole}

-- applies `value` to the result if it is Ok
abbrev pub made : {X Y : Type 0} → (X → Y) → Result X ValueFault → Result Y ValueFault
made value (Ok x) = Ok (value x)
made value (Err fault) = Err fault

-- ---- numerals

-- the numerals, if their count is right and all are in range; a wrong count is reported first
abbrev pub checked : Bool → Quantity → List ℤ → Result (List ℤ) ValueFault
checked right_count quantity numbers =
    if right_count then (if list_all (fits quantity) numbers then Ok numbers else Err ValueRange)
    else Err WrongType

-- a single value of `size` components: a bare run of them
abbrev pub run : ℕ → Quantity → RawValue ℕ → Result (List ℤ) ValueFault
run size quantity (raw.Numbers numbers) = checked (length numbers == size) quantity numbers
run size quantity _ = Err WrongType

-- values of `size` components each: a bare run of one value, or a list of whole values
abbrev pub runs : ℕ → Quantity → RawValue ℕ → Result (List ℤ) ValueFault
runs size quantity (raw.Numbers numbers) = checked (length numbers == size) quantity numbers
runs size quantity (raw.NumberList numbers) = checked (length numbers % size == 0) quantity numbers
runs size quantity raw.EmptyList = Ok []
runs size quantity _ = Err WrongType

-- ---- values without numerals

abbrev pub truth : RawValue ℕ → Result Bool ValueFault
truth (raw.Truth b) = Ok b
truth _ = Err WrongType

abbrev pub truths : RawValue ℕ → Result (List Bool) ValueFault
truths (raw.Truth b) = Ok (b ∷ [])
truths (raw.TruthList bs) = Ok bs
truths raw.EmptyList = Ok []
truths _ = Err WrongType

abbrev pub string : RawValue ℕ → Result (List ℕ) ValueFault
string (raw.String text) = Ok text
string _ = Err WrongType

abbrev pub strings : RawValue ℕ → Result (List (List ℕ)) ValueFault
strings (raw.String text) = Ok (text ∷ [])
strings (raw.StringList texts) = Ok texts
strings raw.EmptyList = Ok []
strings _ = Err WrongType

-- the number that node n of the value has in the scene
abbrev pub called : List ℕ → ℕ → ℕ
called numbers n = slice_index_or numbers n 0

abbrev pub node : List ℕ → RawValue ℕ → Result (Option ℕ) ValueFault
node numbers raw.Null = Ok None
node numbers (raw.Node n) = Ok (Some (called numbers n))
node numbers _ = Err WrongType

-- NULL can't be an item of a list
abbrev pub nodes : List ℕ → RawValue ℕ → Result (List ℕ) ValueFault
nodes numbers (raw.Node n) = Ok (called numbers n ∷ [])
nodes numbers (raw.NodeList ns) = Ok (map (called numbers) ns)
nodes numbers raw.EmptyList = Ok []
nodes numbers _ = Err WrongType

-- ---- by type

-- a rotation is never converted: it is checked and dropped
abbrev pub typed : FieldType → RawValue ℕ → List ℕ → Result Value ValueFault
typed field_type.SFBool raw numbers = made value.SFBool (truth raw)
typed field_type.SFInt32 raw numbers =
    made (λ run. value.SFInt32 (whole (component run 0))) (run 1 Integer raw)
typed field_type.SFFloat raw numbers =
    made (λ run. value.SFFloat (component run 0)) (run 1 Number raw)
typed field_type.SFTime raw numbers = made (λ run. value.SFTime (component run 0)) (run 1 Time raw)
typed field_type.SFString raw numbers = made value.SFString (string raw)
typed field_type.SFVec2f raw numbers = made (λ run. value.SFVec2f (pair run)) (run 2 Number raw)
typed field_type.SFVec3f raw numbers = made (λ run. value.SFVec3f (vector run)) (run 3 Number raw)
typed field_type.SFColor raw numbers = made (λ run. value.SFColor (color run)) (run 3 Number raw)
typed field_type.SFNode raw numbers = made value.SFNode (node numbers raw)
typed field_type.MFBool raw numbers = made value.MFBool (truths raw)
typed field_type.MFInt32 raw numbers =
    made (λ list. value.MFInt32 (map whole list)) (runs 1 Integer raw)
typed field_type.MFFloat raw numbers = made value.MFFloat (runs 1 Number raw)
typed field_type.MFTime raw numbers = made value.MFTime (runs 1 Time raw)
typed field_type.MFString raw numbers = made value.MFString (strings raw)
typed field_type.MFVec2f raw numbers = made (λ list. value.MFVec2f (pairs list)) (runs 2 Number raw)
typed field_type.MFVec3f raw numbers =
    made (λ list. value.MFVec3f (vectors list)) (runs 3 Number raw)
typed field_type.MFColor raw numbers =
    made (λ list. value.MFColor (colors list)) (runs 3 Number raw)
typed field_type.MFNode raw numbers = made value.MFNode (nodes numbers raw)
typed field_type.SFRotation raw numbers = Err WrongType
