-- The parts of a text with the body in the place of each instance, and which texts are quiet.
use Rattle.std.proofs.Common.{◌≡◌, ℕ, Bool, false, if◌then◌else◌, List, map, Option, ap, sym, ◌∙◌}
use Rattle.std.specs.Str.{bytes_eq}
use Rattle.classic_tree.specs.declared.tree.BodyItem.{BodyItem, fold-roll-BodyItem}
use Rattle.classic_tree.specs.declared.tree.BodyItem.TheOpen.{BodyItem-F, NodeText-F, Statement-F}
use Rattle.classic_tree.specs.declared.tree.BodyItem.TheVariants as item
use Rattle.classic_tree.specs.declared.tree.Declaration.{Declaration}
use Rattle.classic_tree.specs.declared.tree.Given.{Given}
use Rattle.classic_tree.specs.declared.tree.NodeText.{NodeText, fold-roll-NodeText}
use Rattle.classic_tree.specs.declared.tree.NodeText.TheVariants as node
use Rattle.classic_tree.specs.declared.tree.ProtoText.{ProtoText}
use Rattle.classic_tree.specs.declared.tree.RouteText.{RouteText}
use Rattle.classic_tree.specs.declared.tree.Statement.{Statement, fold-roll-Statement}
use Rattle.classic_tree.specs.declared.tree.Statement.TheVariants as statement
use Rattle.classic_tree.proofs.Mapped.{declaration_mapped, given_mapped}
use Rattle.proto_meaning.specs.Names.{Name}
use Rattle.laws_documents.specs.InPlace.{may_stand, is_quiet_item, is_quiet_node, is_quiet_statement, quiet_item_step, quiet_node_step, quiet_statement_step, item_step, node_step, statement_step, proto_step, written_item, written_node, written_statement}
use Rattle.laws_documents.specs.Steps.{all_in, plain_proto_step}

module _ (proto : Name) (body : NodeText) where
  pub written-field : (line : ℕ) (name : Name) (g : Given NodeText) → written_item proto body (item.Field line name g) ≡ item.Field line name (given_mapped (written_node proto body) g)
  unfolding item_step
  written-field line name g = ap (written_item proto body) (sym (item.rolls-Field line name g)) ∙ fold-roll-BodyItem BodyItem NodeText Statement ProtoText item_step (node_step proto body) statement_step proto_step (BodyItem-F.Field line name g)

  pub written-declaration : (d : Declaration NodeText) → written_item proto body (item.Declaration d) ≡ item.Declaration (declaration_mapped (written_node proto body) d)
  unfolding item_step
  written-declaration d = ap (written_item proto body) (sym (item.rolls-Declaration d)) ∙ fold-roll-BodyItem BodyItem NodeText Statement ProtoText item_step (node_step proto body) statement_step proto_step (BodyItem-F.Declaration d)

  pub written-full : (line : ℕ) (name : Option Name) (word : Name) (is : List BodyItem) → written_node proto body (node.Full line name word is) ≡ (if bytes_eq proto word then body else node.Full line name word (map (written_item proto body) is))
  unfolding node_step
  written-full line name word is = ap (written_node proto body) (sym (node.rolls-Full line name word is)) ∙ fold-roll-NodeText BodyItem NodeText Statement ProtoText item_step (node_step proto body) statement_step proto_step (NodeText-F.Full line name word is)

  pub written-node : (n : NodeText) → written_statement proto body (statement.Node n) ≡ statement.Node (written_node proto body n)
  unfolding statement_step
  written-node n = ap (written_statement proto body) (sym (statement.rolls-Node n)) ∙ fold-roll-Statement BodyItem NodeText Statement ProtoText item_step (node_step proto body) statement_step proto_step (Statement-F.Node n)

module _ (proto : Name) (allowed : Bool) where
  pub quiet-field : (line : ℕ) (name : Name) (g : Given NodeText) → is_quiet_item proto allowed (item.Field line name g) ≡ all_in (given_mapped (is_quiet_node proto allowed) g)
  unfolding quiet_item_step
  quiet-field line name g = ap (is_quiet_item proto allowed) (sym (item.rolls-Field line name g)) ∙ fold-roll-BodyItem Bool Bool Bool Bool quiet_item_step (quiet_node_step proto allowed) quiet_statement_step plain_proto_step (BodyItem-F.Field line name g)

  pub quiet-declaration : (d : Declaration NodeText) → is_quiet_item proto allowed (item.Declaration d) ≡ all_in (given_mapped (is_quiet_node proto allowed) d.given)
  unfolding quiet_item_step
  quiet-declaration d = ap (is_quiet_item proto allowed) (sym (item.rolls-Declaration d)) ∙ fold-roll-BodyItem Bool Bool Bool Bool quiet_item_step (quiet_node_step proto allowed) quiet_statement_step plain_proto_step (BodyItem-F.Declaration d)

  pub quiet-item-route : (r : RouteText) → is_quiet_item proto allowed (item.Route r) ≡ false
  unfolding quiet_item_step
  quiet-item-route r = ap (is_quiet_item proto allowed) (sym (item.rolls-Route r)) ∙ fold-roll-BodyItem Bool Bool Bool Bool quiet_item_step (quiet_node_step proto allowed) quiet_statement_step plain_proto_step (BodyItem-F.BodyItem::Route r)

  pub quiet-item-proto : (p : ProtoText) → is_quiet_item proto allowed (item.Proto p) ≡ false
  unfolding quiet_item_step
  quiet-item-proto p = ap (is_quiet_item proto allowed) (sym (item.rolls-Proto p)) ∙ fold-roll-BodyItem Bool Bool Bool Bool quiet_item_step (quiet_node_step proto allowed) quiet_statement_step plain_proto_step (BodyItem-F.BodyItem::Proto p)

  pub quiet-use : (line : ℕ) (name : Name) → is_quiet_node proto allowed (node.Use line name) ≡ false
  unfolding quiet_node_step
  quiet-use line name = ap (is_quiet_node proto allowed) (sym (node.rolls-Use line name)) ∙ fold-roll-NodeText Bool Bool Bool Bool quiet_item_step (quiet_node_step proto allowed) quiet_statement_step plain_proto_step (NodeText-F.Use line name)

  pub quiet-full : (line : ℕ) (name : Option Name) (word : Name) (is : List BodyItem) → is_quiet_node proto allowed (node.Full line name word is) ≡ may_stand proto allowed name word (map (is_quiet_item proto allowed) is)
  unfolding quiet_node_step
  quiet-full line name word is = ap (is_quiet_node proto allowed) (sym (node.rolls-Full line name word is)) ∙ fold-roll-NodeText Bool Bool Bool Bool quiet_item_step (quiet_node_step proto allowed) quiet_statement_step plain_proto_step (NodeText-F.Full line name word is)

  pub quiet-node : (n : NodeText) → is_quiet_statement proto allowed (statement.Node n) ≡ is_quiet_node proto allowed n
  unfolding quiet_statement_step
  quiet-node n = ap (is_quiet_statement proto allowed) (sym (statement.rolls-Node n)) ∙ fold-roll-Statement Bool Bool Bool Bool quiet_item_step (quiet_node_step proto allowed) quiet_statement_step plain_proto_step (Statement-F.Node n)

  pub quiet-route : (r : RouteText) → is_quiet_statement proto allowed (statement.Route r) ≡ false
  unfolding quiet_statement_step
  quiet-route r = ap (is_quiet_statement proto allowed) (sym (statement.rolls-Route r)) ∙ fold-roll-Statement Bool Bool Bool Bool quiet_item_step (quiet_node_step proto allowed) quiet_statement_step plain_proto_step (Statement-F.Statement::Route r)

  pub quiet-proto : (p : ProtoText) → is_quiet_statement proto allowed (statement.Proto p) ≡ false
  unfolding quiet_statement_step
  quiet-proto p = ap (is_quiet_statement proto allowed) (sym (statement.rolls-Proto p)) ∙ fold-roll-Statement Bool Bool Bool Bool quiet_item_step (quiet_node_step proto allowed) quiet_statement_step plain_proto_step (Statement-F.Statement::Proto p)
