-- A flat document with the lines of instances for its own: the line of a field is that of the
-- instance whose braces hold its value, and 0 if no instance's do (our choice).
use Rattle.std.specs.Prelude.{ℕ, List, [], ◌∷◌, ◌++◌, length, map, Option, None, Some, slice_get}
use Rattle.std.specs.List.{fold}
use Rattle.std.specs.Option.{option_map_or}
use Rattle.classic_tree.specs.declared.tree.Declaration.{Declaration}
use Rattle.classic_tree.specs.declared.tree.RawValue.{RawValue}
use Rattle.classic_tree.specs.declared.tree.RawValue.TheVariants as value
use Rattle.proto_flat.specs.declared.flat.Flat.{Flat}
use Rattle.proto_flat.specs.declared.flat.FlatField.{FlatField}
use Rattle.proto_flat.specs.declared.flat.FlatNode.{FlatNode}
use Rattle.proto_blame.specs.Blames.{line_in}

-- ---- the line that a value of a blamed document says

-- of a node by its name
abbrev pub name_line : Option (List ℕ) → ℕ
name_line name = option_map_or line_in name 0

abbrev pub node_line : Option FlatNode → ℕ
node_line None = 0
node_line (Some node) = name_line node.name

-- of nodes by the first, as the same braces hold all
abbrev pub list_line : List FlatNode → List ℕ → ℕ
list_line nodes [] = 0
list_line nodes (n ∷ _) = node_line (slice_get nodes n)

abbrev pub value_line : List FlatNode → RawValue ℕ → ℕ
value_line nodes (value.String text) = line_in text
value_line nodes (value.Node n) = node_line (slice_get nodes n)
value_line nodes (value.NodeList ns) = list_line nodes ns
value_line nodes _ = 0

-- ---- lines for lines

-- each with what is at the same place of a second list
abbrev pub with_next : {A B : Type 0} → (Option B → A → A) → List B → List A → A → List A
with_next f others made x = made ++ f (slice_get others (length made)) x ∷ []

abbrev pub side_by_side : {A B : Type 0} → (Option B → A → A) → List B → List A → List A
side_by_side f others xs = fold (with_next f others) [] xs

-- the nodes of the blamed document come first
abbrev pub field_line : List FlatNode → Option FlatField → ℕ
field_line nodes None = 0
field_line nodes (Some blamed) = value_line nodes blamed.value

abbrev pub relined_field : List FlatNode → Option FlatField → FlatField → FlatField
relined_field nodes blamed f = record f { line = field_line nodes blamed }

abbrev pub fields_of : Option FlatNode → List FlatField
fields_of None = []
fields_of (Some node) = node.fields

abbrev pub unlined : Declaration ℕ → Declaration ℕ
unlined d = record d { line = 0 }

abbrev pub relined_node : List FlatNode → Option FlatNode → FlatNode → FlatNode
relined_node nodes blamed n =
    record n {
      line = 0;
      fields = side_by_side (relined_field nodes) (fields_of blamed) n.fields;
      interface = map unlined n.interface;
    }

-- a flat document with the lines of instances, by that of the blamed document
abbrev pub relined : Flat → Flat → Flat
relined blamed f =
    record f { nodes = side_by_side (relined_node blamed.nodes) blamed.nodes f.nodes }
