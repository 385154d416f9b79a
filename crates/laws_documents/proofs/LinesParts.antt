-- The parts of a tree without their lines.
use Rattle.std.proofs.Common.{◌≡◌, ℕ, List, map, Option, ap, sym, ◌∙◌}
use Rattle.classic_tree.specs.declared.tree.BodyItem.{BodyItem, fold-roll-BodyItem}
use Rattle.classic_tree.specs.declared.tree.BodyItem.TheOpen.{BodyItem-F, NodeText-F, Statement-F, ProtoText-F}
use Rattle.classic_tree.specs.declared.tree.BodyItem.TheVariants as item
use Rattle.classic_tree.specs.declared.tree.Declaration.{Declaration}
use Rattle.classic_tree.specs.declared.tree.Given.{Given}
use Rattle.classic_tree.specs.declared.tree.NodeText.{NodeText, fold-roll-NodeText}
use Rattle.classic_tree.specs.declared.tree.NodeText.TheVariants as node
use Rattle.classic_tree.specs.declared.tree.ProtoText.{ProtoText, out-ProtoText, fold_out-ProtoText, out-roll-ProtoText}
use Rattle.classic_tree.specs.declared.tree.RouteText.{RouteText}
use Rattle.classic_tree.specs.declared.tree.Statement.{Statement, fold-roll-Statement}
use Rattle.classic_tree.specs.declared.tree.Statement.TheVariants as statement
use Rattle.classic_tree.proofs.Mapped.{declaration_mapped, given_mapped, interface_mapped}
use Rattle.laws_documents.specs.Lines.{item_step, node_step, proto_step, statement_step, unlined_declaration, unlined_item, unlined_node, unlined_proto, unlined_route, unlined_statement}

abbrev pub unlined_given : Given NodeText → Given NodeText
unlined_given g = given_mapped unlined_node g

-- with all that is inside
abbrev pub unlined_own : Declaration NodeText → Declaration NodeText
unlined_own d = unlined_declaration (declaration_mapped unlined_node d)

abbrev pub unlined_interface : List (Declaration NodeText) → List (Declaration NodeText)
unlined_interface ds = map unlined_declaration (map (interface_mapped unlined_node) ds)

pub item-field : (line : ℕ) (name : List ℕ) (g : Given NodeText) → unlined_item (item.Field line name g) ≡ item.Field 0 name (unlined_given g)
unfolding item_step
item-field line name g =
    ap unlined_item (sym (item.rolls-Field line name g)) ∙ fold-roll-BodyItem BodyItem NodeText Statement ProtoText item_step node_step statement_step proto_step (BodyItem-F.Field line name g)

pub item-declaration : (d : Declaration NodeText) → unlined_item (item.Declaration d) ≡ item.Declaration (unlined_own d)
unfolding item_step
item-declaration d =
    ap unlined_item (sym (item.rolls-Declaration d)) ∙ fold-roll-BodyItem BodyItem NodeText Statement ProtoText item_step node_step statement_step proto_step (BodyItem-F.Declaration d)

pub item-route : (route : RouteText) → unlined_item (item.Route route) ≡ item.Route (unlined_route route)
unfolding item_step
item-route route =
    ap unlined_item (sym (item.rolls-Route route)) ∙ fold-roll-BodyItem BodyItem NodeText Statement ProtoText item_step node_step statement_step proto_step (BodyItem-F.BodyItem::Route route)

pub item-proto : (p : ProtoText) → unlined_item (item.Proto p) ≡ item.Proto (unlined_proto p)
unfolding item_step
item-proto p = ap unlined_item (sym (item.rolls-Proto p)) ∙ fold-roll-BodyItem BodyItem NodeText Statement ProtoText item_step node_step statement_step proto_step (BodyItem-F.BodyItem::Proto p)

pub node-use : (line : ℕ) (name : List ℕ) → unlined_node (node.Use line name) ≡ node.Use 0 name
unfolding node_step
node-use line name = ap unlined_node (sym (node.rolls-Use line name)) ∙ fold-roll-NodeText BodyItem NodeText Statement ProtoText item_step node_step statement_step proto_step (NodeText-F.Use line name)

pub node-full : (line : ℕ) (name : Option (List ℕ)) (word : List ℕ) (items : List BodyItem)
    → unlined_node (node.Full line name word items) ≡ node.Full 0 name word (map unlined_item items)
unfolding node_step
node-full line name word items =
    ap unlined_node (sym (node.rolls-Full line name word items))
    ∙ fold-roll-NodeText BodyItem NodeText Statement ProtoText item_step node_step statement_step proto_step (NodeText-F.Full line name word items)

pub statement-node : (n : NodeText) → unlined_statement (statement.Node n) ≡ statement.Node (unlined_node n)
unfolding statement_step
statement-node n =
    ap unlined_statement (sym (statement.rolls-Node n)) ∙ fold-roll-Statement BodyItem NodeText Statement ProtoText item_step node_step statement_step proto_step (Statement-F.Node n)

pub statement-route : (route : RouteText) → unlined_statement (statement.Route route) ≡ statement.Route (unlined_route route)
unfolding statement_step
statement-route route =
    ap unlined_statement (sym (statement.rolls-Route route)) ∙ fold-roll-Statement BodyItem NodeText Statement ProtoText item_step node_step statement_step proto_step (Statement-F.Statement::Route route)

pub statement-proto : (p : ProtoText) → unlined_statement (statement.Proto p) ≡ statement.Proto (unlined_proto p)
unfolding statement_step
statement-proto p =
    ap unlined_statement (sym (statement.rolls-Proto p)) ∙ fold-roll-Statement BodyItem NodeText Statement ProtoText item_step node_step statement_step proto_step (Statement-F.Statement::Proto p)

abbrev pub OpenProto : Type 0
OpenProto = ProtoText-F BodyItem NodeText Statement ProtoText

abbrev pub unlined_open : ProtoText → OpenProto
unlined_open p = record {
  line = 0;
  name = (out-ProtoText p).name;
  interface = unlined_interface (out-ProtoText p).interface;
  body = map unlined_statement (out-ProtoText p).body;
}

pub proto-open : (p : ProtoText) → out-ProtoText (unlined_proto p) ≡ unlined_open p
unfolding proto_step
proto-open p =
    ap out-ProtoText (fold_out-ProtoText BodyItem NodeText Statement ProtoText item_step node_step statement_step proto_step p) ∙ out-roll-ProtoText (unlined_open p)
