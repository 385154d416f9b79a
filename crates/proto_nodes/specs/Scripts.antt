-- What a Script declares.
use Rattle.std.specs.Prelude.{◌≡◌, ◌⊎◌, ℕ, Bool, false, if◌then◌else◌, [], ◌∷◌, ◌++◌, length, is_some, Result, Ok, Err}
use denote.Enum.Bare.{sameb}
use Rattle.x3d_values.specs.declared.node_type.NodeType.TheVariants.{Script}
use Rattle.x3d_values.specs.contracts.node_type.NodeType as node_types
use Rattle.classic_tree.specs.declared.tree.Declaration.{Declaration}
use Rattle.classic_tree.specs.declared.tree.NodeText.{NodeText}
use Rattle.proto_flat.specs.Fault.{memory}
use Rattle.proto_flat.specs.declared.fault.ExpandFault.{ExpandFault}
use Rattle.proto_flat.specs.declared.fault.ExpandFaultKind.TheVariants.{UnknownField}
use Rattle.proto_meaning.specs.Flat as flat
use Rattle.proto_meaning.specs.Flat.{Does, refuse, field, numbered_from}
use Rattle.proto_meaning.specs.Names.{Field}
use Rattle.proto_meaning.specs.Sight.{Owner}
use Rattle.proto_parts.specs.Given.{has_name}
use Rattle.proto_parts.specs.Inside as braces
use Rattle.proto_parts.specs.Inside.{filled_in}
use Rattle.proto_parts.specs.declared.inside.Inside.{Inside}
use Rattle.proto_parts.specs.declared.inside.Owner as holder
use Rattle.proto_parts.specs.declared.inside.Owner.TheVariants.{Node, Instance}
use Rattle.proto_parts.specs.Fields.{numbered}
use Rattle.proto_parts.specs.Settled.{State, doing}
use Rattle.proto_nodes.specs.declared.declared.Declared.{Declared}
use Rattle.proto_nodes.specs.Giving.{inside_of}

abbrev pub is_script : holder.Owner → Bool
is_script (Node t) = sameb node_types.the_type t Script
is_script (Instance interface) = false

-- as in `declare_field`: a Script's declaration adds a field, and then `rest` follows
abbrev pub declares : Declaration NodeText → (ℕ × Field → Bool → flat.Inside → Does flat.Inside)
    → flat.Inside → Does flat.Inside
declares d rest i =
    if flat.is_script i.owner
    then rest (length i.fields, field d) (is_some (numbered_from 0 d.name i.fields))
    (record i { fields = i.fields ++ field d ∷ [] })
    else refuse UnknownField d.line

-- the field was declared, and `rest` follows; or the result is a fault
abbrev pub MayDeclare : Declaration NodeText → Inside → Result Declared ExpandFault → Inside
    → Type 0
MayDeclare d old (Ok made) new =
    ((at : ℕ) (o : Owner) (rest : ℕ × Field → Bool → flat.Inside → Does flat.Inside) (s : State)
    → flat.is_script o ≡ is_script old.owner
    → doing (declares d rest (inside_of at o old)) s
    ≡ doing (rest (numbered d.name made.field) made.twice (inside_of at o new)) s)
    × (made.twice ≡ false → has_name d.name (filled_in new) ≡ false) × braces.Sound new
    × (new.owner ≡ old.owner)
MayDeclare d old (Err e) new =
    (at : ℕ) (o : Owner) (rest : ℕ × Field → Bool → flat.Inside → Does flat.Inside) (s : State)
    → flat.is_script o ≡ is_script old.owner
    → (e ≡ memory) ⊎ (doing (declares d rest (inside_of at o old)) s ≡ Err e)
