-- What a flat document names exists in it, and what a node holds comes before the node.
use Rattle.std.specs.Prelude.{◌≡◌, ℕ, ◌<◌, List, [], ◌∷◌, length, Some, slice_get}
use Rattle.std.specs.List.{AllByRecursion}
use Rattle.classic_tree.specs.declared.tree.RawValue.{RawValue}
use Rattle.classic_tree.specs.declared.tree.RawValue.TheVariants.{Node, NodeList}
use Rattle.proto_flat.specs.declared.flat.Flat.{Flat}
use Rattle.proto_flat.specs.declared.flat.FlatEnd.{FlatEnd}
use Rattle.proto_flat.specs.declared.flat.FlatEnd.TheVariants.{At}
use Rattle.proto_flat.specs.declared.flat.FlatField.{FlatField}
use Rattle.proto_flat.specs.declared.flat.FlatNode.{FlatNode}
use Rattle.proto_flat.specs.declared.flat.FlatRoute.{FlatRoute}

-- ---- numbers below a bound

abbrev pub AreBelow : ℕ → List ℕ → Type 0
AreBelow bound numbers = AllByRecursion (λ number. number < bound) numbers

-- the nodes that a value names
abbrev pub nodes_in : RawValue ℕ → List ℕ
nodes_in (Node number) = number ∷ []
nodes_in (NodeList numbers) = numbers
nodes_in _ = []

abbrev pub IsValueBelow : ℕ → RawValue ℕ → Type 0
IsValueBelow bound value = AreBelow bound (nodes_in value)

abbrev pub AreFieldsBelow : ℕ → List FlatField → Type 0
AreFieldsBelow bound fields = AllByRecursion (λ field. IsValueBelow bound field.value) fields

-- an end that names a node
abbrev pub IsEndBelow : ℕ → FlatEnd → Type 0
IsEndBelow bound (At number name) = number < bound
IsEndBelow bound _ = Unit {0}

abbrev pub IsRouteBelow : ℕ → FlatRoute → Type 0
IsRouteBelow bound route = IsEndBelow bound route.source × IsEndBelow bound route.target

-- ---- a flat document

pub record IsOrdered (f : Flat) : Type 0 where
  -- the nodes in a node's fields have lower numbers than the node
  pub nodes : (number : ℕ) (node : FlatNode) → slice_get f.nodes number ≡ Some node
      → AreFieldsBelow number node.fields
  -- all other numbers are those of nodes
  pub roots : AreBelow (length f.nodes) f.roots
  pub helpers : AreBelow (length f.nodes) f.helpers
  pub routes : AllByRecursion (IsRouteBelow (length f.nodes)) f.routes
