-- Documents without their lines; a flat document uses lines for nothing else.
use Rattle.std.specs.Prelude.{◌≡◌, map, Result, Ok, Err}
use Rattle.classic_tree.specs.declared.tree.BodyItem.{BodyItem, fold-BodyItem}
use Rattle.classic_tree.specs.declared.tree.BodyItem.TheOpen.{BodyItem-F, NodeText-F, Statement-F, ProtoText-F}
use Rattle.classic_tree.specs.declared.tree.BodyItem.TheVariants as item
use Rattle.classic_tree.specs.declared.tree.Declaration.{Declaration}
use Rattle.classic_tree.specs.declared.tree.Document.{Document}
use Rattle.classic_tree.specs.declared.tree.NodeText.{NodeText, fold-NodeText}
use Rattle.classic_tree.specs.declared.tree.NodeText.TheVariants as node
use Rattle.classic_tree.specs.declared.tree.ProtoText.{ProtoText, fold-ProtoText, roll-ProtoText}
use Rattle.classic_tree.specs.declared.tree.RouteText.{RouteText}
use Rattle.classic_tree.specs.declared.tree.Statement.{Statement, fold-Statement}
use Rattle.classic_tree.specs.declared.tree.Statement.TheVariants as statement
use Rattle.proto_flat.specs.declared.fault.ExpandFault.{ExpandFault}
use Rattle.proto_flat.specs.declared.flat.Flat.{Flat}
use Rattle.proto_flat.specs.declared.flat.FlatField.{FlatField}
use Rattle.proto_flat.specs.declared.flat.FlatNode.{FlatNode}
use Rattle.proto_flat.specs.declared.flat.FlatRoute.{FlatRoute}

-- ---- a tree with 0 for each line

abbrev pub unlined_declaration : {N : Type 0} → Declaration N → Declaration N
unlined_declaration d = record d { line = 0 }

abbrev pub unlined_route : RouteText → RouteText
unlined_route route = record route { line = 0 }

unfoldable pub item_step : BodyItem-F BodyItem NodeText Statement ProtoText → BodyItem
item_step (BodyItem-F.Field line name g) = item.Field 0 name g
item_step (BodyItem-F.Declaration d) = item.Declaration (unlined_declaration d)
item_step (BodyItem-F.BodyItem::Route route) = item.Route (unlined_route route)
item_step (BodyItem-F.BodyItem::Proto proto) = item.Proto proto

unfoldable pub node_step : NodeText-F BodyItem NodeText Statement ProtoText → NodeText
node_step (NodeText-F.Use line name) = node.Use 0 name
node_step (NodeText-F.Full line name word items) = node.Full 0 name word items

unfoldable pub statement_step : Statement-F BodyItem NodeText Statement ProtoText → Statement
statement_step (Statement-F.Node node) = statement.Node node
statement_step (Statement-F.Statement::Route route) = statement.Route (unlined_route route)
statement_step (Statement-F.Statement::Proto proto) = statement.Proto proto

unfoldable pub proto_step : ProtoText-F BodyItem NodeText Statement ProtoText → ProtoText
proto_step p =
    roll-ProtoText (record p { line = 0; interface = map unlined_declaration p.interface })

abbrev pub unlined_item : BodyItem → BodyItem
unlined_item =
    fold-BodyItem BodyItem NodeText Statement ProtoText item_step node_step statement_step
    proto_step

abbrev pub unlined_node : NodeText → NodeText
unlined_node =
    fold-NodeText BodyItem NodeText Statement ProtoText item_step node_step statement_step
    proto_step

abbrev pub unlined_statement : Statement → Statement
unlined_statement =
    fold-Statement BodyItem NodeText Statement ProtoText item_step node_step statement_step
    proto_step

abbrev pub unlined_proto : ProtoText → ProtoText
unlined_proto =
    fold-ProtoText BodyItem NodeText Statement ProtoText item_step node_step statement_step
    proto_step

abbrev pub unlined : Document → Document
unlined document = record document { statements = map unlined_statement document.statements }

-- ---- a flat document with 0 for each line

abbrev pub unlined_field : FlatField → FlatField
unlined_field field = record field { line = 0 }

abbrev pub unlined_flat_node : FlatNode → FlatNode
unlined_flat_node node =
    record node {
      line = 0;
      fields = map unlined_field node.fields;
      interface = map unlined_declaration node.interface;
    }

abbrev pub unlined_flat_route : FlatRoute → FlatRoute
unlined_flat_route route = record route { line = 0 }

abbrev pub unlined_flat : Flat → Flat
unlined_flat f =
    record f {
      nodes = map unlined_flat_node f.nodes;
      routes = map unlined_flat_route f.routes;
    }

-- ---- alike

-- equal except for lines, or faults of one kind
abbrev pub AreAlike : Result Flat ExpandFault → Result Flat ExpandFault → Type 0
AreAlike (Ok f) (Ok g) = unlined_flat f ≡ unlined_flat g
AreAlike (Err a) (Err b) = a.kind ≡ b.kind
AreAlike (Ok f) (Err b) = ⊥
AreAlike (Err a) (Ok g) = ⊥
