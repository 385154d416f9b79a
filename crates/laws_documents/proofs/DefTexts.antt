-- The parts of a text with other DEF names.
use Rattle.std.proofs.Common.{◌≡◌, ℕ, List, map, Option, option_map, ap, sym, ◌∙◌}
use Rattle.classic_tree.specs.declared.tree.BodyItem.{BodyItem, fold-roll-BodyItem}
use Rattle.classic_tree.specs.declared.tree.BodyItem.TheOpen.{BodyItem-F, NodeText-F, Statement-F, ProtoText-F}
use Rattle.classic_tree.specs.declared.tree.BodyItem.TheVariants as item
use Rattle.classic_tree.specs.declared.tree.Declaration.{Declaration}
use Rattle.classic_tree.specs.declared.tree.Given.{Given}
use Rattle.classic_tree.specs.declared.tree.NodeText.{NodeText, fold-roll-NodeText}
use Rattle.classic_tree.specs.declared.tree.NodeText.TheVariants as node
use Rattle.classic_tree.specs.declared.tree.ProtoText.{ProtoText, out-ProtoText, fold_out-ProtoText, out-roll-ProtoText}
use Rattle.classic_tree.specs.declared.tree.RouteText.{RouteText}
use Rattle.classic_tree.specs.declared.tree.Statement.{Statement, fold-roll-Statement}
use Rattle.classic_tree.specs.declared.tree.Statement.TheVariants as statement
use Rattle.classic_tree.proofs.Mapped.{declaration_mapped, given_mapped, interface_mapped}
use Rattle.proto_meaning.specs.Names.{Name}
use Rattle.laws_documents.specs.RenamedDefs.{InScope, declaration_in, given_in, item_step, node_step, proto_step, renamed_item, renamed_node, renamed_proto, renamed_statement, route_in, statement_step}

module _ (rename : Name → Name → Name) (r : Name → Name) where
  abbrev pub other_given : Given NodeText → Given NodeText
  other_given g = given_in r (given_mapped (renamed_node rename) g)

  -- with all that is inside
  abbrev pub other_declaration : Declaration NodeText → Declaration NodeText
  other_declaration d = declaration_in r (declaration_mapped (renamed_node rename) d)

  abbrev pub in_item : InScope BodyItem → BodyItem
  in_item i = i r

  abbrev pub in_statement : InScope Statement → Statement
  in_statement s = s r

  pub item-field : (line : ℕ) (name : List ℕ) (g : Given NodeText) → renamed_item rename (item.Field line name g) r ≡ item.Field line name (other_given g)
  unfolding item_step
  item-field line name g =
      ap (λ (i : BodyItem). renamed_item rename i r) (sym (item.rolls-Field line name g))
      ∙ ap in_item (fold-roll-BodyItem (InScope BodyItem) (InScope NodeText) (InScope Statement) (InScope ProtoText) item_step node_step statement_step (proto_step rename) (BodyItem-F.Field line name g))

  pub item-declaration : (d : Declaration NodeText) → renamed_item rename (item.Declaration d) r ≡ item.Declaration (other_declaration d)
  unfolding item_step
  item-declaration d =
      ap (λ (i : BodyItem). renamed_item rename i r) (sym (item.rolls-Declaration d))
      ∙ ap in_item (fold-roll-BodyItem (InScope BodyItem) (InScope NodeText) (InScope Statement) (InScope ProtoText) item_step node_step statement_step (proto_step rename) (BodyItem-F.Declaration d))

  pub item-route : (route : RouteText) → renamed_item rename (item.Route route) r ≡ item.Route (route_in r route)
  unfolding item_step
  item-route route =
      ap (λ (i : BodyItem). renamed_item rename i r) (sym (item.rolls-Route route))
      ∙ ap in_item (fold-roll-BodyItem (InScope BodyItem) (InScope NodeText) (InScope Statement) (InScope ProtoText) item_step node_step statement_step (proto_step rename) (BodyItem-F.BodyItem::Route route))

  pub item-proto : (p : ProtoText) → renamed_item rename (item.Proto p) r ≡ item.Proto (renamed_proto rename p r)
  unfolding item_step
  item-proto p =
      ap (λ (i : BodyItem). renamed_item rename i r) (sym (item.rolls-Proto p))
      ∙ ap in_item (fold-roll-BodyItem (InScope BodyItem) (InScope NodeText) (InScope Statement) (InScope ProtoText) item_step node_step statement_step (proto_step rename) (BodyItem-F.BodyItem::Proto p))

  pub node-use : (line : ℕ) (name : List ℕ) → renamed_node rename (node.Use line name) r ≡ node.Use line (r name)
  unfolding node_step
  node-use line name =
      ap (λ (n : NodeText). renamed_node rename n r) (sym (node.rolls-Use line name))
      ∙ ap (λ (n : InScope NodeText). n r) (fold-roll-NodeText (InScope BodyItem) (InScope NodeText) (InScope Statement) (InScope ProtoText) item_step node_step statement_step (proto_step rename) (NodeText-F.Use line name))

  pub node-full : (line : ℕ) (name : Option (List ℕ)) (word : List ℕ) (items : List BodyItem)
      → renamed_node rename (node.Full line name word items) r ≡ node.Full line (option_map r name) word (map in_item (map (renamed_item rename) items))
  unfolding node_step
  node-full line name word items =
      ap (λ (n : NodeText). renamed_node rename n r) (sym (node.rolls-Full line name word items))
      ∙ ap (λ (n : InScope NodeText). n r) (fold-roll-NodeText (InScope BodyItem) (InScope NodeText) (InScope Statement) (InScope ProtoText) item_step node_step statement_step (proto_step rename) (NodeText-F.Full line name word items))

  pub statement-node : (n : NodeText) → renamed_statement rename (statement.Node n) r ≡ statement.Node (renamed_node rename n r)
  unfolding statement_step
  statement-node n =
      ap (λ (s : Statement). renamed_statement rename s r) (sym (statement.rolls-Node n))
      ∙ ap in_statement (fold-roll-Statement (InScope BodyItem) (InScope NodeText) (InScope Statement) (InScope ProtoText) item_step node_step statement_step (proto_step rename) (Statement-F.Node n))

  pub statement-route : (route : RouteText) → renamed_statement rename (statement.Route route) r ≡ statement.Route (route_in r route)
  unfolding statement_step
  statement-route route =
      ap (λ (s : Statement). renamed_statement rename s r) (sym (statement.rolls-Route route))
      ∙ ap in_statement (fold-roll-Statement (InScope BodyItem) (InScope NodeText) (InScope Statement) (InScope ProtoText) item_step node_step statement_step (proto_step rename) (Statement-F.Statement::Route route))

  pub statement-proto : (p : ProtoText) → renamed_statement rename (statement.Proto p) r ≡ statement.Proto (renamed_proto rename p r)
  unfolding statement_step
  statement-proto p =
      ap (λ (s : Statement). renamed_statement rename s r) (sym (statement.rolls-Proto p))
      ∙ ap in_statement (fold-roll-Statement (InScope BodyItem) (InScope NodeText) (InScope Statement) (InScope ProtoText) item_step node_step statement_step (proto_step rename) (Statement-F.Statement::Proto p))

-- ---- a prototype, whose body is a scope of its own

abbrev pub OpenProto : Type 0
OpenProto = ProtoText-F BodyItem NodeText Statement ProtoText

module _ (rename : Name → Name → Name) where
  abbrev pub other_open : OpenProto → OpenProto
  other_open q = record {
    line = q.line;
    name = q.name;
    interface = map (declaration_in (rename q.name)) (map (interface_mapped (renamed_node rename)) q.interface);
    body = map (in_statement rename (rename q.name)) (map (renamed_statement rename) q.body);
  }

  pub proto-open : (p : ProtoText) (r : Name → Name) → out-ProtoText (renamed_proto rename p r) ≡ other_open (out-ProtoText p)
  unfolding proto_step
  proto-open p r =
      ap (λ (q : InScope ProtoText). out-ProtoText (q r)) (fold_out-ProtoText (InScope BodyItem) (InScope NodeText) (InScope Statement) (InScope ProtoText) item_step node_step statement_step (proto_step rename) p)
      ∙ out-roll-ProtoText (other_open (out-ProtoText p))
