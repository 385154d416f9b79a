-- Fields by their names, in the terms of the definition.
use Rattle.std.specs.Prelude.{◌≡◌, ℕ, ◌&&◌, Bool, if◌then◌else◌, List, [], ◌∷◌, Option, Some, None, option_map}
use Rattle.std.specs.List.{find, list_any}
use Rattle.std.specs.Option.{option_or}
use Rattle.std.specs.Str.{bytes_eq}
use Rattle.std.specs.BTreeMap.{get_by}
use Rattle.std.specs.Cmp.Lexicographic.{slice_cmp}
use Rattle.std.specs.Ordering.{nat_cmp}
use Rattle.x3d_values.specs.Access.{is_exposed}
use Rattle.classic_tree.specs.declared.tree.Declaration.{Declaration}
use Rattle.proto_meaning.specs.Names.{Name, Field}
use Rattle.proto_meaning.specs.Sight.{Names, with_name, no_names}
use Rattle.proto_meaning.specs.Flat.{field_with, numbered_from}
use Rattle.proto_parts.specs.declared.fields.Fields.{Fields}
use Rattle.proto_parts.specs.declared.fields.KnownField.{KnownField}
use Rattle.proto_parts.specs.declared.interface.Tables.{Tables}

-- a field of that name; and that field with its number
abbrev pub field_named : Name → KnownField → Field
field_named name k = field_with k.line k.access k.field_type name

abbrev pub numbered : Name → KnownField → ℕ × Field
numbered name k = (k.number, field_named name k)

abbrev pub known : {N : Type 0} → ℕ → Declaration N → KnownField
known number d =
    record { line = d.line; number = number; access = d.access; field_type = d.field_type }

-- ---- tables

unfoldable pub fields_of : Fields → Name → Option KnownField
fields_of fields name = get_by (λ k. slice_cmp nat_cmp name k.now) fields.table

abbrev pub no_fields : Name → Option KnownField
no_fields name = None

abbrev pub with_entry : Name → KnownField → (Name → Option KnownField) → Name → Option KnownField
with_entry given field fields name = if bytes_eq given name then Some field else fields name

-- one more field, after those of the same name
abbrev pub added : KnownField → Name → (Name → Option KnownField) → Name → Option KnownField
added field given fields name =
    option_or (fields name) (if bytes_eq given name then Some field else None)

-- the table has the first of these fields of each name; they are numbered from `first`
abbrev pub AreFieldsNamed : Fields → ℕ → List Field → Type 0
AreFieldsNamed table first fs =
    (name : Name) → option_map (numbered name) (fields_of table name) ≡ numbered_from first name fs

-- the table has the first inputOutput field of each name
abbrev pub IsExposed : Fields → List Field → Type 0
IsExposed table fs =
    (name : Name) → option_map (field_named name) (fields_of table name)
    ≡ find (λ (f : Field). is_exposed f.access && bytes_eq f.name name) fs

-- ---- names that occur twice

abbrev pub has_name : Name → List Field → Bool
has_name name fs = list_any (λ (f : Field). bytes_eq f.name name) fs

-- the line of the first field whose name is in `seen` or occurs earlier in the list
abbrev pub twice_after : Names → List Field → Option ℕ
twice_after seen [] = None
twice_after seen (f ∷ fs) =
    if seen f.name then Some f.line else twice_after (with_name f.name seen) fs

-- the tables hold these fields
pub record HasFields (tables : Tables) (fs : List Field) : Type 0 where
  pub named : AreFieldsNamed tables.named 0 fs
  pub exposed : IsExposed tables.exposed fs
  pub twice : tables.twice ≡ twice_after no_names fs
