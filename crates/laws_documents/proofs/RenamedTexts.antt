-- The parts of a text with other names of prototypes.
use Rattle.std.proofs.Common.{◌≡◌, ℕ, List, map, Option, ap, sym, ◌∙◌}
use Rattle.classic_tree.specs.declared.tree.BodyItem.{BodyItem, fold-roll-BodyItem}
use Rattle.classic_tree.specs.declared.tree.BodyItem.TheOpen.{BodyItem-F, NodeText-F, Statement-F, ProtoText-F}
use Rattle.classic_tree.specs.declared.tree.BodyItem.TheVariants as item
use Rattle.classic_tree.specs.declared.tree.Declaration.{Declaration}
use Rattle.classic_tree.specs.declared.tree.Given.{Given}
use Rattle.classic_tree.specs.declared.tree.NodeText.{NodeText, fold-roll-NodeText}
use Rattle.classic_tree.specs.declared.tree.NodeText.TheVariants as node
use Rattle.classic_tree.specs.declared.tree.ProtoText.{ProtoText, out-ProtoText, roll-ProtoText, fold_out-ProtoText}
use Rattle.classic_tree.specs.declared.tree.RouteText.{RouteText}
use Rattle.classic_tree.specs.declared.tree.Statement.{Statement, fold-roll-Statement}
use Rattle.classic_tree.specs.declared.tree.Statement.TheVariants as statement
use Rattle.classic_tree.proofs.Mapped.{declaration_mapped, given_mapped, interface_mapped}
use Rattle.proto_meaning.specs.Names.{Name}
use Rattle.laws_documents.specs.Renamed.{item_step, node_step, statement_step, proto_step, renamed_item, renamed_node, renamed_statement, renamed_proto}

module _ (rename : Name → Name) where
  pub renamed-field : (line : ℕ) (name : Name) (g : Given NodeText) → renamed_item rename (item.Field line name g) ≡ item.Field line name (given_mapped (renamed_node rename) g)
  unfolding item_step
  renamed-field line name g =
      ap (renamed_item rename) (sym (item.rolls-Field line name g))
      ∙ fold-roll-BodyItem BodyItem NodeText Statement ProtoText (item_step rename) (node_step rename) (statement_step rename) (proto_step rename) (BodyItem-F.Field line name g)

  pub renamed-declaration : (d : Declaration NodeText) → renamed_item rename (item.Declaration d) ≡ item.Declaration (declaration_mapped (renamed_node rename) d)
  unfolding item_step
  renamed-declaration d =
      ap (renamed_item rename) (sym (item.rolls-Declaration d))
      ∙ fold-roll-BodyItem BodyItem NodeText Statement ProtoText (item_step rename) (node_step rename) (statement_step rename) (proto_step rename) (BodyItem-F.Declaration d)

  pub renamed-item-route : (r : RouteText) → renamed_item rename (item.Route r) ≡ item.Route r
  unfolding item_step
  renamed-item-route r =
      ap (renamed_item rename) (sym (item.rolls-Route r))
      ∙ fold-roll-BodyItem BodyItem NodeText Statement ProtoText (item_step rename) (node_step rename) (statement_step rename) (proto_step rename) (BodyItem-F.BodyItem::Route r)

  pub renamed-item-proto : (p : ProtoText) → renamed_item rename (item.Proto p) ≡ item.Proto (renamed_proto rename p)
  unfolding item_step
  renamed-item-proto p =
      ap (renamed_item rename) (sym (item.rolls-Proto p))
      ∙ fold-roll-BodyItem BodyItem NodeText Statement ProtoText (item_step rename) (node_step rename) (statement_step rename) (proto_step rename) (BodyItem-F.BodyItem::Proto p)

  pub renamed-use : (line : ℕ) (name : Name) → renamed_node rename (node.Use line name) ≡ node.Use line name
  unfolding node_step
  renamed-use line name =
      ap (renamed_node rename) (sym (node.rolls-Use line name))
      ∙ fold-roll-NodeText BodyItem NodeText Statement ProtoText (item_step rename) (node_step rename) (statement_step rename) (proto_step rename) (NodeText-F.Use line name)

  pub renamed-full : (line : ℕ) (name : Option Name) (word : Name) (is : List BodyItem) → renamed_node rename (node.Full line name word is) ≡ node.Full line name (rename word) (map (renamed_item rename) is)
  unfolding node_step
  renamed-full line name word is =
      ap (renamed_node rename) (sym (node.rolls-Full line name word is))
      ∙ fold-roll-NodeText BodyItem NodeText Statement ProtoText (item_step rename) (node_step rename) (statement_step rename) (proto_step rename) (NodeText-F.Full line name word is)

  pub renamed-node : (n : NodeText) → renamed_statement rename (statement.Node n) ≡ statement.Node (renamed_node rename n)
  unfolding statement_step
  renamed-node n =
      ap (renamed_statement rename) (sym (statement.rolls-Node n))
      ∙ fold-roll-Statement BodyItem NodeText Statement ProtoText (item_step rename) (node_step rename) (statement_step rename) (proto_step rename) (Statement-F.Node n)

  pub renamed-route : (r : RouteText) → renamed_statement rename (statement.Route r) ≡ statement.Route r
  unfolding statement_step
  renamed-route r =
      ap (renamed_statement rename) (sym (statement.rolls-Route r))
      ∙ fold-roll-Statement BodyItem NodeText Statement ProtoText (item_step rename) (node_step rename) (statement_step rename) (proto_step rename) (Statement-F.Statement::Route r)

  pub renamed-proto : (p : ProtoText) → renamed_statement rename (statement.Proto p) ≡ statement.Proto (renamed_proto rename p)
  unfolding statement_step
  renamed-proto p =
      ap (renamed_statement rename) (sym (statement.rolls-Proto p))
      ∙ fold-roll-Statement BodyItem NodeText Statement ProtoText (item_step rename) (node_step rename) (statement_step rename) (proto_step rename) (Statement-F.Statement::Proto p)

  abbrev Parts : Type 0
  Parts = ProtoText-F BodyItem NodeText Statement ProtoText

  abbrev pub renamed_parts : Parts → ProtoText
  renamed_parts q = roll-ProtoText (record {
    line = q.line;
    name = rename q.name;
    interface = map (interface_mapped (renamed_node rename)) q.interface;
    body = map (renamed_statement rename) q.body;
  })

  pub renamed-prototype : (p : ProtoText) → renamed_proto rename p ≡ renamed_parts (out-ProtoText p)
  unfolding proto_step
  renamed-prototype p = fold_out-ProtoText BodyItem NodeText Statement ProtoText (item_step rename) (node_step rename) (statement_step rename) (proto_step rename) p
