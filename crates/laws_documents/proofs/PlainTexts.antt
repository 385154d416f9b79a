-- The parts of a text read plainly, and which texts are plain.
use Rattle.std.proofs.Common.{◌≡◌, ℕ, Bool, List, map, Option, ap, sym, ◌∙◌}
use Rattle.classic_tree.specs.declared.tree.BodyItem.{BodyItem, fold-roll-BodyItem}
use Rattle.classic_tree.specs.declared.tree.BodyItem.TheOpen.{BodyItem-F, NodeText-F, Statement-F}
use Rattle.classic_tree.specs.declared.tree.BodyItem.TheVariants as item
use Rattle.classic_tree.specs.declared.tree.Declaration.{Declaration}
use Rattle.classic_tree.specs.declared.tree.Given.{Given}
use Rattle.classic_tree.specs.declared.tree.NodeText.{NodeText, fold-roll-NodeText}
use Rattle.classic_tree.specs.declared.tree.NodeText.TheVariants as node
use Rattle.classic_tree.specs.declared.tree.ProtoText.{ProtoText, fold-ProtoText}
use Rattle.classic_tree.specs.declared.tree.RouteText.{RouteText}
use Rattle.classic_tree.specs.declared.tree.Statement.{fold-roll-Statement}
use Rattle.classic_tree.specs.declared.tree.Statement.TheVariants as statement
use Rattle.classic_tree.proofs.Mapped.{declaration_mapped, given_mapped}
use Rattle.proto_meaning.specs.Names.{Name}
use Rattle.laws_documents.specs.Plain.{ItemReads, PlainRead, is_plain_item, is_plain_node, is_plain_statement, plain_node_step, item_step, node_step, statement_step, proto_step, read_item, read_text, read_statement}
use Rattle.laws_documents.specs.Steps.{plain_item_step, plain_statement_step, plain_proto_step}

pub read-field : (line : ℕ) (name : Name) (g : Given NodeText) → read_item (item.Field line name g) ≡ item_step (BodyItem-F.Field line name (given_mapped read_text g))
unfolding item_step
read-field line name g = ap read_item (sym (item.rolls-Field line name g)) ∙ fold-roll-BodyItem ItemReads (PlainRead ℕ) (PlainRead (List ℕ)) (Unit {0}) item_step node_step statement_step proto_step (BodyItem-F.Field line name g)

pub read-declaration : (d : Declaration NodeText) → read_item (item.Declaration d) ≡ item_step (BodyItem-F.Declaration (declaration_mapped read_text d))
unfolding item_step
read-declaration d = ap read_item (sym (item.rolls-Declaration d)) ∙ fold-roll-BodyItem ItemReads (PlainRead ℕ) (PlainRead (List ℕ)) (Unit {0}) item_step node_step statement_step proto_step (BodyItem-F.Declaration d)

pub read-item-route : (r : RouteText) → read_item (item.Route r) ≡ item_step (BodyItem-F.BodyItem::Route r)
unfolding item_step
read-item-route r = ap read_item (sym (item.rolls-Route r)) ∙ fold-roll-BodyItem ItemReads (PlainRead ℕ) (PlainRead (List ℕ)) (Unit {0}) item_step node_step statement_step proto_step (BodyItem-F.BodyItem::Route r)

pub read-item-proto : (p : ProtoText) → read_item (item.Proto p) ≡ item_step (BodyItem-F.BodyItem::Proto (fold-ProtoText ItemReads (PlainRead ℕ) (PlainRead (List ℕ)) (Unit {0}) item_step node_step statement_step proto_step p))
unfolding item_step
read-item-proto p = ap read_item (sym (item.rolls-Proto p)) ∙ fold-roll-BodyItem ItemReads (PlainRead ℕ) (PlainRead (List ℕ)) (Unit {0}) item_step node_step statement_step proto_step (BodyItem-F.BodyItem::Proto p)

pub read-use : (line : ℕ) (name : Name) → read_text (node.Use line name) ≡ node_step (NodeText-F.Use line name)
unfolding node_step
read-use line name = ap read_text (sym (node.rolls-Use line name)) ∙ fold-roll-NodeText ItemReads (PlainRead ℕ) (PlainRead (List ℕ)) (Unit {0}) item_step node_step statement_step proto_step (NodeText-F.Use line name)

pub read-full : (line : ℕ) (name : Option Name) (word : Name) (is : List BodyItem) → read_text (node.Full line name word is) ≡ node_step (NodeText-F.Full line name word (map read_item is))
unfolding node_step
read-full line name word is = ap read_text (sym (node.rolls-Full line name word is)) ∙ fold-roll-NodeText ItemReads (PlainRead ℕ) (PlainRead (List ℕ)) (Unit {0}) item_step node_step statement_step proto_step (NodeText-F.Full line name word is)

pub read-node : (n : NodeText) → read_statement (statement.Node n) ≡ statement_step (Statement-F.Node (read_text n))
unfolding statement_step
read-node n = ap read_statement (sym (statement.rolls-Node n)) ∙ fold-roll-Statement ItemReads (PlainRead ℕ) (PlainRead (List ℕ)) (Unit {0}) item_step node_step statement_step proto_step (Statement-F.Node n)

pub read-route : (r : RouteText) → read_statement (statement.Route r) ≡ statement_step (Statement-F.Statement::Route r)
unfolding statement_step
read-route r = ap read_statement (sym (statement.rolls-Route r)) ∙ fold-roll-Statement ItemReads (PlainRead ℕ) (PlainRead (List ℕ)) (Unit {0}) item_step node_step statement_step proto_step (Statement-F.Statement::Route r)

pub read-proto : (p : ProtoText) → read_statement (statement.Proto p) ≡ statement_step (Statement-F.Statement::Proto (fold-ProtoText ItemReads (PlainRead ℕ) (PlainRead (List ℕ)) (Unit {0}) item_step node_step statement_step proto_step p))
unfolding statement_step
read-proto p = ap read_statement (sym (statement.rolls-Proto p)) ∙ fold-roll-Statement ItemReads (PlainRead ℕ) (PlainRead (List ℕ)) (Unit {0}) item_step node_step statement_step proto_step (Statement-F.Statement::Proto p)

pub plain-field : (line : ℕ) (name : Name) (g : Given NodeText) → is_plain_item (item.Field line name g) ≡ plain_item_step (BodyItem-F.Field line name (given_mapped is_plain_node g))
unfolding plain_item_step
plain-field line name g = ap is_plain_item (sym (item.rolls-Field line name g)) ∙ fold-roll-BodyItem Bool Bool Bool Bool plain_item_step plain_node_step plain_statement_step plain_proto_step (BodyItem-F.Field line name g)

pub plain-declaration : (d : Declaration NodeText) → is_plain_item (item.Declaration d) ≡ plain_item_step (BodyItem-F.Declaration (declaration_mapped is_plain_node d))
unfolding plain_item_step
plain-declaration d = ap is_plain_item (sym (item.rolls-Declaration d)) ∙ fold-roll-BodyItem Bool Bool Bool Bool plain_item_step plain_node_step plain_statement_step plain_proto_step (BodyItem-F.Declaration d)

pub plain-item-route : (r : RouteText) → is_plain_item (item.Route r) ≡ plain_item_step (BodyItem-F.BodyItem::Route r)
unfolding plain_item_step
plain-item-route r = ap is_plain_item (sym (item.rolls-Route r)) ∙ fold-roll-BodyItem Bool Bool Bool Bool plain_item_step plain_node_step plain_statement_step plain_proto_step (BodyItem-F.BodyItem::Route r)

pub plain-item-proto : (p : ProtoText) → is_plain_item (item.Proto p) ≡ plain_item_step (BodyItem-F.BodyItem::Proto (fold-ProtoText Bool Bool Bool Bool plain_item_step plain_node_step plain_statement_step plain_proto_step p))
unfolding plain_item_step
plain-item-proto p = ap is_plain_item (sym (item.rolls-Proto p)) ∙ fold-roll-BodyItem Bool Bool Bool Bool plain_item_step plain_node_step plain_statement_step plain_proto_step (BodyItem-F.BodyItem::Proto p)

pub plain-use : (line : ℕ) (name : Name) → is_plain_node (node.Use line name) ≡ plain_node_step (NodeText-F.Use line name)
unfolding plain_node_step
plain-use line name = ap is_plain_node (sym (node.rolls-Use line name)) ∙ fold-roll-NodeText Bool Bool Bool Bool plain_item_step plain_node_step plain_statement_step plain_proto_step (NodeText-F.Use line name)

pub plain-full : (line : ℕ) (name : Option Name) (word : Name) (is : List BodyItem) → is_plain_node (node.Full line name word is) ≡ plain_node_step (NodeText-F.Full line name word (map is_plain_item is))
unfolding plain_node_step
plain-full line name word is = ap is_plain_node (sym (node.rolls-Full line name word is)) ∙ fold-roll-NodeText Bool Bool Bool Bool plain_item_step plain_node_step plain_statement_step plain_proto_step (NodeText-F.Full line name word is)

pub plain-node : (n : NodeText) → is_plain_statement (statement.Node n) ≡ plain_statement_step (Statement-F.Node (is_plain_node n))
unfolding plain_statement_step
plain-node n = ap is_plain_statement (sym (statement.rolls-Node n)) ∙ fold-roll-Statement Bool Bool Bool Bool plain_item_step plain_node_step plain_statement_step plain_proto_step (Statement-F.Node n)

pub plain-route : (r : RouteText) → is_plain_statement (statement.Route r) ≡ plain_statement_step (Statement-F.Statement::Route r)
unfolding plain_statement_step
plain-route r = ap is_plain_statement (sym (statement.rolls-Route r)) ∙ fold-roll-Statement Bool Bool Bool Bool plain_item_step plain_node_step plain_statement_step plain_proto_step (Statement-F.Statement::Route r)

pub plain-proto : (p : ProtoText) → is_plain_statement (statement.Proto p) ≡ plain_statement_step (Statement-F.Statement::Proto (fold-ProtoText Bool Bool Bool Bool plain_item_step plain_node_step plain_statement_step plain_proto_step p))
unfolding plain_statement_step
plain-proto p = ap is_plain_statement (sym (statement.rolls-Proto p)) ∙ fold-roll-Statement Bool Bool Bool Bool plain_item_step plain_node_step plain_statement_step plain_proto_step (Statement-F.Statement::Proto p)
