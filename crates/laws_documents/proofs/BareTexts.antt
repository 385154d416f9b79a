-- Which texts have to do with no prototype.
use Rattle.std.proofs.Common.{◌≡◌, ℕ, Bool, false, List, map, Option, ap, sym, ◌∙◌}
use Rattle.std.specs.Prelude.{◌&&◌, is_some}
use Rattle.std.specs.List.{list_all}
use Rattle.x3d_values.specs.Names.{node_type_named}
use Rattle.classic_tree.specs.declared.tree.BodyItem.{BodyItem, fold-roll-BodyItem}
use Rattle.classic_tree.specs.declared.tree.BodyItem.TheOpen.{BodyItem-F, NodeText-F, Statement-F}
use Rattle.classic_tree.specs.declared.tree.BodyItem.TheVariants as item
use Rattle.classic_tree.specs.declared.tree.Declaration.{Declaration}
use Rattle.classic_tree.specs.declared.tree.Given.{Given}
use Rattle.classic_tree.specs.declared.tree.NodeText.{NodeText, fold-roll-NodeText}
use Rattle.classic_tree.specs.declared.tree.NodeText.TheVariants as node
use Rattle.classic_tree.specs.declared.tree.ProtoText.{ProtoText}
use Rattle.classic_tree.specs.declared.tree.Statement.{fold-roll-Statement}
use Rattle.classic_tree.specs.declared.tree.Statement.TheVariants as statement
use Rattle.classic_tree.proofs.Mapped.{given_mapped}
use Rattle.proto_meaning.specs.Names.{Name}
use Rattle.laws_documents.specs.Untaken.{is_bare_item, is_bare_node, is_bare_statement, bare_node_step}
use Rattle.laws_documents.specs.Steps.{all_in, is_true, plain_item_step, plain_statement_step, plain_proto_step}

pub bare-field : (line : ℕ) (name : Name) (g : Given NodeText) → is_bare_item (item.Field line name g) ≡ all_in (given_mapped is_bare_node g)
unfolding plain_item_step
bare-field line name g = ap is_bare_item (sym (item.rolls-Field line name g)) ∙ fold-roll-BodyItem Bool Bool Bool Bool plain_item_step bare_node_step plain_statement_step plain_proto_step (BodyItem-F.Field line name g)

pub bare-declaration : (d : Declaration NodeText) → is_bare_item (item.Declaration d) ≡ all_in (given_mapped is_bare_node d.given)
unfolding plain_item_step
bare-declaration d = ap is_bare_item (sym (item.rolls-Declaration d)) ∙ fold-roll-BodyItem Bool Bool Bool Bool plain_item_step bare_node_step plain_statement_step plain_proto_step (BodyItem-F.Declaration d)

pub bare-item-proto : (p : ProtoText) → is_bare_item (item.Proto p) ≡ false
unfolding plain_item_step
bare-item-proto p = ap is_bare_item (sym (item.rolls-Proto p)) ∙ fold-roll-BodyItem Bool Bool Bool Bool plain_item_step bare_node_step plain_statement_step plain_proto_step (BodyItem-F.BodyItem::Proto p)

pub bare-full : (line : ℕ) (name : Option Name) (word : Name) (is : List BodyItem) → is_bare_node (node.Full line name word is) ≡ (is_some (node_type_named word) && list_all is_true (map is_bare_item is))
unfolding bare_node_step
bare-full line name word is = ap is_bare_node (sym (node.rolls-Full line name word is)) ∙ fold-roll-NodeText Bool Bool Bool Bool plain_item_step bare_node_step plain_statement_step plain_proto_step (NodeText-F.Full line name word is)

pub bare-node : (n : NodeText) → is_bare_statement (statement.Node n) ≡ is_bare_node n
unfolding plain_statement_step
bare-node n = ap is_bare_statement (sym (statement.rolls-Node n)) ∙ fold-roll-Statement Bool Bool Bool Bool plain_item_step bare_node_step plain_statement_step plain_proto_step (Statement-F.Node n)

pub bare-proto : (p : ProtoText) → is_bare_statement (statement.Proto p) ≡ false
unfolding plain_statement_step
bare-proto p = ap is_bare_statement (sym (statement.rolls-Proto p)) ∙ fold-roll-Statement Bool Bool Bool Bool plain_item_step bare_node_step plain_statement_step plain_proto_step (Statement-F.Statement::Proto p)
