-- The fields that nodes declare have distinct names (ISO/IEC 19775-1, Script).
use Rattle.std.specs.Prelude.{◌≡◌, ◌⊎◌, ℕ, true, List, [], map, Some, None, Ok, slice_get}
use Rattle.std.specs.List.{AllByRecursion}
use Rattle.x3d_values.specs.declared.node_type.NodeType.{NodeType}
use Rattle.x3d_values.specs.declared.node_type.NodeType.TheVariants.{Script}
use Rattle.x3d_values.specs.Tables.{are_distinct}
use Rattle.classic_tree.specs.declared.tree.Declaration.{Declaration}
use Rattle.classic_tree.specs.declared.tree.Document.{Document}
use Rattle.proto_flat.specs.declared.flat.Flat.{Flat}
use Rattle.proto_flat.specs.declared.flat.FlatNode.{FlatNode}
use Rattle.laws_documents.specs.Signatures.{of_type}
use Rattle.proto_meaning.specs.Flat.{flat}
use Rattle.scene_core.specs.Shape.{declaration_entry}

-- the type has no field of that name
abbrev pub IsNoneOf : NodeType → Declaration ℕ → Type 0
IsNoneOf t d = of_type t d.name ≡ None

-- the declarations of a node of this type
pub record IsDistinctInterface (t : NodeType) (interface : List (Declaration ℕ)) : Type 0 where
  -- only a Script declares fields
  pub scripted : (t ≡ Script) ⊎ (interface ≡ [])
  -- no two declarations have the same name
  pub apart : are_distinct (map declaration_entry interface) ≡ true
  -- no declaration has the name of a field of the type
  pub none_own : AllByRecursion (IsNoneOf t) interface

-- for all nodes of the flat form of a document, including nodes that represent instances
abbrev pub InterfacesAreDistinct : Type 0
InterfacesAreDistinct =
    (d : Document) (f : Flat) (n : ℕ) (node : FlatNode) → flat d ≡ Ok f
    → slice_get f.nodes n ≡ Some node → IsDistinctInterface node.node_type node.interface
