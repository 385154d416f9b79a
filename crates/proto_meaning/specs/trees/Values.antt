-- Parts of the steps in which a value is given, as the crates of prototypes use them. They are no
-- part of the definition of a flat document.
use Rattle.std.specs.Prelude.{ℕ, Bool, ◌||◌, if◌then◌else◌, Option, Some, None, Err}
use Rattle.x3d_values.specs.Access.{is_initial}
use Rattle.classic_tree.specs.declared.tree.NodeText.{NodeText}
use Rattle.classic_tree.specs.declared.tree.RawValue.{RawValue}
use Rattle.classic_tree.specs.declared.tree.RawValue.TheVariants as value
use Rattle.proto_flat.specs.declared.fault.ExpandFault.{ExpandFault}
use Rattle.proto_flat.specs.declared.fault.ExpandFaultKind.TheVariants.{FieldTwice, UnknownField}
use Rattle.proto_meaning.specs.Flat.{Does, ◌>>=◌, Inside, comes, is_node, met_field, pure, refuse}
use Rattle.proto_meaning.specs.Names.{Field}

-- a value without nodes, unchanged but for the type of its nodes
abbrev pub plain : {N : Type 0} → RawValue NodeText → RawValue N
plain value.Null = value.Null
plain (value.Truth truth) = value.Truth truth
plain (value.String text) = value.String text
plain (value.Numbers numbers) = value.Numbers numbers
plain (value.Node n) = value.EmptyList
plain value.EmptyList = value.EmptyList
plain (value.TruthList truths) = value.TruthList truths
plain (value.StringList texts) = value.StringList texts
plain (value.NumberList numbers) = value.NumberList numbers
plain (value.NodeList ns) = value.EmptyList

-- like `give` for a value: checks that the field may have one, counts its items, and then does
-- `rest`
abbrev pub value_at : ℕ → ℕ × Field → Bool → ℕ → Inside → Does Inside → Does Inside
value_at line f twice items i rest =
    if is_node i.owner || is_initial f.1.access
    then (if twice then refuse FieldTwice line else met_field i.owner f.0 items >>= λ _. rest)
    else refuse UnknownField line

-- a value that no IS takes; its first wrong declaration is the fault
abbrev pub left_by : Option ExpandFault → Does (Unit {0})
left_by None = pure tt
left_by (Some e) = λ w. comes (Err e)
