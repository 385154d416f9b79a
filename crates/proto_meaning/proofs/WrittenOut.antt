-- An instance is its prototype's body written in its place: names made apart, IS replaced by what is
-- given or the default, helpers behind. Two documents are written out of each other in this sense where
-- they have the same nodes up to lines and DEF names, the same routes, and the helpers of the first stand
-- behind its roots.
use Rattle.std.specs.Prelude.{◌≡◌, ℕ, List, ◌++◌, map, Result, Ok, Err}
use Rattle.x3d_values.specs.declared.node_type.NodeType.{NodeType}
use Rattle.x3d_values.specs.declared.field_type.Access.{Access}
use Rattle.x3d_values.specs.declared.field_type.FieldType.{FieldType}
use Rattle.classic_tree.specs.declared.tree.Declaration.{Declaration}
use Rattle.classic_tree.specs.declared.tree.Document.{Document}
use Rattle.classic_tree.specs.declared.tree.RawValue.{RawValue}
use Rattle.proto_flat.specs.declared.fault.ExpandFault.{ExpandFault}
use Rattle.proto_flat.specs.declared.fault.ExpandFaultKind.{ExpandFaultKind}
use Rattle.proto_flat.specs.declared.flat.Flat.{Flat}
use Rattle.proto_flat.specs.declared.flat.FlatEnd.{FlatEnd}
use Rattle.proto_flat.specs.declared.flat.FlatField.{FlatField}
use Rattle.proto_flat.specs.declared.flat.FlatNode.{FlatNode}
use Rattle.proto_flat.specs.declared.flat.FlatRoute.{FlatRoute}
use Rattle.proto_meaning.specs.Flat.{flat}

-- a node's type, its fields by number, and what it declares
pub record Bare : Type 0 where
  pub node_type : NodeType
  pub fields : List (ℕ × RawValue ℕ)
  pub interface : List (Access × FieldType × List ℕ)

abbrev pub bare : FlatNode → Bare
bare n =
    record {
      node_type = n.node_type;
      fields = map (λ (f : FlatField). (f.number, f.value)) n.fields;
      interface = map (λ (d : Declaration ℕ). (d.access, d.field_type, d.name)) n.interface;
    }

abbrev pub Shown : Type 0
Shown = List Bare × List ℕ × List (FlatEnd × FlatEnd)

abbrev pub written : Result Flat ExpandFault → Result Shown ExpandFaultKind
written (Ok f) =
    Ok (map bare f.nodes, f.roots ++ f.helpers, map (λ (r : FlatRoute). (r.source, r.target)) f.routes)
written (Err e) = Err e.kind

abbrev pub IsWrittenOut : Document → Document → Type 0
IsWrittenOut d e = written (flat d) ≡ written (flat e)
