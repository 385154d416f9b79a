-- What the table of given fields holds, in the terms of the definition.
use Rattle.std.specs.Prelude.{◌≡◌, ℕ, Bool, if◌then◌else◌, List, map, Option, Some, option_map, is_some}
use Rattle.std.specs.List.{list_any}
use Rattle.std.specs.Option.{option_and_then}
use Rattle.std.specs.Str.{bytes_eq}
use Rattle.std.specs.BTreeMap.{get_by}
use Rattle.std.specs.Cmp.Lexicographic.{slice_cmp}
use Rattle.std.specs.Ordering.{nat_cmp}
use Rattle.std.specs.declared.rc.Rc.{Rc}
use Rattle.classic_tree.specs.declared.tree.RawValue.{RawValue}
use Rattle.proto_meaning.specs.Names.{Name, Filled, value_of}
use Rattle.proto_parts.specs.declared.given.Given.{Given}
use Rattle.proto_parts.specs.declared.given.GivenField.{GivenField}

abbrev pub Value : Type 0
Value = Option (RawValue ℕ)

-- a shared value
abbrev pub held : {A : Type 0} → Option (Rc (RawValue ℕ) A) → Value
held value = option_map (λ v. v.value) value

abbrev pub filled_of : Name → GivenField → Filled
filled_of name field =
    record { line = field.line; name = name; number = field.number; value = held field.value }

abbrev pub shown : Given → List Filled
shown given = map (λ e. filled_of e.0.now e.1) given.fields.items

-- the value of the field of that name, if it was given something
unfoldable pub entry_of : Given → Name → Option Value
entry_of given name =
    option_map (λ v. held v) (get_by (λ k. slice_cmp nat_cmp name k.now) given.values)

abbrev pub with_entry : Name → Value → (Name → Option Value) → Name → Option Value
with_entry given value entries name = if bytes_eq given name then Some value else entries name

abbrev pub value_held : Option Value → Value
value_held entry = option_and_then (λ v. v) entry

-- how the definition asks whether a field was given something
abbrev pub has_name : Name → List Filled → Bool
has_name name filled = list_any (λ (f : Filled). bytes_eq f.name name) filled

-- the table holds these fields
pub record Holds (given : Given) (filled : List Filled) : Type 0 where
  pub list : shown given ≡ filled
  pub has : (name : Name) → is_some (entry_of given name) ≡ has_name name filled
  pub value : (name : Name) → value_held (entry_of given name) ≡ value_of name filled

-- the table holds its own fields
abbrev pub IsHeld : Given → Type 0
IsHeld given = Holds given (shown given)
