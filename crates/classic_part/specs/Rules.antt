-- What stays of a node and of its fields (ISO/IEC 19775-1, the node types of each component). What
-- the table of node types and fields lacks goes. Our choice.
use Rattle.std.specs.Prelude.{ℕ, ℤ, Bool, false, not, ◌&&◌, ◌||◌, ◌==◌, List, [], ◌∷◌, Option, Some, None, codes, unsigned_abs, if◌then◌else◌}
use Rattle.std.specs.List.{list_any}
use Rattle.std.specs.Str.{bytes_eq}
use denote.Enum.Bare.{sameb}
use Rattle.x3d_values.specs.contracts.field_type.FieldType as types
use Rattle.x3d_values.specs.declared.field_type.FieldType.{FieldType}
use Rattle.x3d_values.specs.declared.field_type.FieldType.TheVariants.{SFRotation}
use Rattle.x3d_values.specs.declared.node_type.NodeType.{NodeType}
use Rattle.x3d_values.specs.declared.table.FieldRow.{FieldRow}
use Rattle.x3d_values.specs.Names.{node_type_named, node_type_name}
use Rattle.x3d_values.specs.Tables.{rows, row_named}
use Rattle.classic_tree.specs.declared.tree.Given.{Given}
use Rattle.classic_tree.specs.declared.tree.Given.TheVariants as given
use Rattle.classic_tree.specs.declared.tree.RawValue.{RawValue}
use Rattle.classic_tree.specs.declared.tree.RawValue.TheVariants as value
use Rattle.classic_part.specs.declared.knowing.Known.{Known}
use Rattle.classic_part.specs.declared.notes.Note.{Note}
use Rattle.classic_part.specs.declared.rules.Meant.{Meant}
use Rattle.classic_part.specs.declared.rules.Meant.TheVariants.{Typed, Grouped, Prototype, Nothing}
use Rattle.classic_part.specs.declared.rules.FieldRule.{FieldRule}
use Rattle.classic_part.specs.declared.rules.FieldRule.TheVariants.{Stays, Children, Unknown, Turned}
use Rattle.classic_part.specs.Groupings.{GroupingRow, table, holds_children}
use Rattle.classic_part.specs.Notes.{declares}

-- ---- what the word before a node's braces means

abbrev pub grouped : List ℕ → List GroupingRow → Meant
grouped word [] = Nothing
grouped word (row ∷ others) =
    if bytes_eq word row.word then Grouped row.becomes row.children else grouped word others

abbrev pub declared_or_grouped : Bool → List ℕ → Meant
declared_or_grouped is_declared word = if is_declared then Prototype else grouped word table

-- a prototype, or a grouping node; in the first round any word is taken for a prototype
abbrev pub untyped : List ℕ → Option (List Note) → Meant
untyped word None = Prototype
untyped word (Some notes) = declared_or_grouped (list_any (declares word) notes) word

abbrev pub typed_or : Meant → Option NodeType → Meant
typed_or other None = other
typed_or other (Some t) = Typed t

-- a node type of the table, or else a prototype, or else a grouping node
abbrev pub meaning_of : Known → List ℕ → Meant
meaning_of known word = typed_or (untyped word known.notes) (node_type_named word)

-- the word in the part
abbrev pub word_of : Meant → List ℕ → List ℕ
word_of (Grouped t _) word = node_type_name t
word_of _ word = word

-- ---- fields

-- an axis of three numerals, and an angle other than 0
abbrev pub turns_by : List ℤ → Bool
turns_by (x ∷ (y ∷ (z ∷ (angle ∷ [])))) = not (unsigned_abs angle == 0)
turns_by _ = false

abbrev pub value_turns : {N : Type 0} → RawValue N → Bool
value_turns (value.Numbers run) = turns_by run
value_turns _ = false

abbrev pub turns : {N : Type 0} → Given N → Bool
turns (given.Value v) = value_turns v
turns _ = false

-- any angle is taken of an `orientation`
abbrev pub may_turn : FieldType → List ℕ → Bool
may_turn t name = not (sameb types.the_type t SFRotation) || bytes_eq name (codes "orientation")

abbrev pub row_rule : List ℕ → Bool → Option FieldRow → FieldRule
row_rule name turns None = Unknown
row_rule name turns (Some row) =
    if turns && not (may_turn row.field_type name) then Turned else Stays

abbrev pub typed_rule : NodeType → List ℕ → Bool → FieldRule
typed_rule t name turns = row_rule name turns (row_named 0 name (rows t))

-- what is done with a field of a node, given whether its value turns
abbrev pub field_rule : Meant → List ℕ → Bool → FieldRule
field_rule (Typed t) name turns = typed_rule t name turns
field_rule (Grouped t held) name turns =
    if holds_children held name then Children else typed_rule t name turns
field_rule Prototype name turns = Stays
field_rule Nothing name turns = Unknown
