-- The pairs of braces of a document outside declarations, in the order in which they close (ISO/IEC
-- 19776-2, grammar; the order is our choice).
use Rattle.std.specs.Prelude.{◌≡◌, ℕ, true, List, [], ◌∷◌, ◌++◌, Option, Some, is_some}
use Rattle.std.specs.List.{flat_map}
use Rattle.x3d_values.specs.declared.node_type.NodeType.{NodeType}
use Rattle.x3d_values.specs.Names.{node_type_named}
use Rattle.classic_tree.specs.declared.tree.BodyItem.{BodyItem, fold-BodyItem}
use Rattle.classic_tree.specs.declared.tree.BodyItem.TheOpen.{BodyItem-F, NodeText-F, Statement-F, ProtoText-F}
use Rattle.classic_tree.specs.declared.tree.Document.{Document}
use Rattle.classic_tree.specs.declared.tree.Given.{Given}
use Rattle.classic_tree.specs.declared.tree.Given.TheVariants as given
use Rattle.classic_tree.specs.declared.tree.NodeText.{NodeText, fold-NodeText}
use Rattle.classic_tree.specs.declared.tree.RawValue.{RawValue}
use Rattle.classic_tree.specs.declared.tree.RawValue.TheVariants as value
use Rattle.classic_tree.specs.declared.tree.Statement.{Statement, fold-Statement}
use Rattle.proto_flat.specs.declared.flat.FlatNode.{FlatNode}

-- a pair of braces: the word before it, and the name that DEF gives
pub record Braces : Type 0 where
  pub word : List ℕ
  pub name : Option (List ℕ)

-- ---- the braces in each part of a tree, from those in its own parts

module _ {N : Type 0} (braces : N → List Braces) where
  abbrev pub in_value : RawValue N → List Braces
  in_value (value.Node node) = braces node
  in_value (value.NodeList nodes) = flat_map braces nodes
  in_value _ = []

  abbrev pub in_given : Given N → List Braces
  in_given (given.Value v) = in_value v
  in_given _ = []

abbrev pub inside : List Braces → List Braces
inside braces = braces

-- the declaration of a prototype has no nodes of the document
abbrev pub ClosedBraces : Type 0
ClosedBraces = List Braces

unfoldable pub item_step : BodyItem-F ClosedBraces ClosedBraces ClosedBraces ClosedBraces
    → ClosedBraces
item_step (BodyItem-F.Field line name g) = in_given inside g
item_step (BodyItem-F.Declaration d) = in_given inside d.given
item_step (BodyItem-F.BodyItem::Route route) = []
item_step (BodyItem-F.BodyItem::Proto proto) = []

unfoldable pub node_step : NodeText-F ClosedBraces ClosedBraces ClosedBraces ClosedBraces
    → ClosedBraces
node_step (NodeText-F.Use line name) = []
node_step (NodeText-F.Full line name word items) =
    flat_map inside items ++ record { word = word; name = name } ∷ []

unfoldable pub statement_step : Statement-F ClosedBraces ClosedBraces ClosedBraces ClosedBraces
    → ClosedBraces
statement_step (Statement-F.Node node) = node
statement_step (Statement-F.Statement::Route route) = []
statement_step (Statement-F.Statement::Proto proto) = []

unfoldable pub proto_step : ProtoText-F ClosedBraces ClosedBraces ClosedBraces ClosedBraces
    → ClosedBraces
proto_step p = []

abbrev pub in_item : BodyItem → List Braces
in_item =
    fold-BodyItem ClosedBraces ClosedBraces ClosedBraces ClosedBraces item_step node_step
    statement_step proto_step

abbrev pub in_node : NodeText → List Braces
in_node =
    fold-NodeText ClosedBraces ClosedBraces ClosedBraces ClosedBraces item_step node_step
    statement_step proto_step

abbrev pub in_statement : Statement → List Braces
in_statement =
    fold-Statement ClosedBraces ClosedBraces ClosedBraces ClosedBraces item_step node_step
    statement_step proto_step

abbrev pub closings : Document → List Braces
closings document = flat_map in_statement document.statements

-- ---- nodes

-- the braces are those of a node, not of an instance
abbrev pub IsOfNode : Braces → Type 0
IsOfNode braces = is_some (node_type_named braces.word) ≡ true

-- a node's type, if there is one, and its name
abbrev pub Shown : Type 0
Shown = Option NodeType × Option (List ℕ)

abbrev pub shown : FlatNode → Shown
shown node = (Some node.node_type, node.name)

abbrev pub expected : Braces → Shown
expected braces = (node_type_named braces.word, braces.name)
