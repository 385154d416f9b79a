-- What holds of each part of a tree where it holds of the parts inside.
use Rattle.std.proofs.Common.{ℕ, List, [], ◌∷◌, map, Option, sym, subst}
use Rattle.std.specs.List.{AllByRecursion}
use Rattle.classic_tree.specs.declared.tree.BodyItem.{BodyItem, roll-BodyItem, map-BodyItem}
use Rattle.classic_tree.specs.declared.tree.BodyItem.TheOpen.{BodyItem-F, NodeText-F, Statement-F, ProtoText-F}
use Rattle.classic_tree.specs.declared.tree.BodyItem.TheShapes.{former-BodyItem-Field-2-at-11, former-BodyItem-Declaration-0-at-16, former-ProtoText-interface-at-16}
use Rattle.classic_tree.specs.declared.tree.BodyItem.TheVariants as item
use Rattle.classic_tree.specs.declared.tree.Declaration.{Declaration}
use Rattle.classic_tree.specs.declared.tree.Given.{Given}
use Rattle.classic_tree.specs.declared.tree.Given.TheVariants as given
use Rattle.classic_tree.specs.declared.tree.NodeText.{NodeText, roll-NodeText, map-NodeText}
use Rattle.classic_tree.specs.declared.tree.NodeText.TheVariants as node
use Rattle.classic_tree.specs.declared.tree.ProtoText.{ProtoText, out-ProtoText, roll-ProtoText, out-roll-ProtoText, map-ProtoText}
use Rattle.classic_tree.specs.declared.tree.RawValue.{RawValue}
use Rattle.classic_tree.specs.declared.tree.RawValue.TheVariants as value
use Rattle.classic_tree.specs.declared.tree.RouteText.{RouteText}
use Rattle.classic_tree.specs.declared.tree.Statement.{Statement, roll-Statement, map-Statement, ind-Statement}
use Rattle.classic_tree.specs.declared.tree.Statement.TheVariants as statement

-- ---- of the nodes in a value

module _ (OfNode : NodeText → Type 0) where
  abbrev pub OfValue : RawValue NodeText → Type 0
  OfValue (value.Node n) = OfNode n
  OfValue (value.NodeList ns) = AllByRecursion OfNode ns
  OfValue _ = Unit {0}

  abbrev pub OfGiven : Given NodeText → Type 0
  OfGiven (given.Value v) = OfValue v
  OfGiven _ = Unit {0}

  abbrev pub OfDeclaration : Declaration NodeText → Type 0
  OfDeclaration d = OfGiven d.given

module _ (OfItem : BodyItem → Type 0) (OfNode : NodeText → Type 0) (OfStatement : Statement → Type 0) (OfProto : ProtoText → Type 0) where
  -- ---- what is to be shown of each variant

  pub record Layers : Type 0 where
    pub field : (line : ℕ) (name : List ℕ) (g : Given NodeText) → OfGiven OfNode g → OfItem (item.Field line name g)
    pub declaration : (d : Declaration NodeText) → OfDeclaration OfNode d → OfItem (item.Declaration d)
    pub item_route : (route : RouteText) → OfItem (item.Route route)
    pub item_proto : (p : ProtoText) → OfProto p → OfItem (item.Proto p)
    pub used : (line : ℕ) (name : List ℕ) → OfNode (node.Use line name)
    pub full : (line : ℕ) (name : Option (List ℕ)) (word : List ℕ) (items : List BodyItem) → AllByRecursion OfItem items → OfNode (node.Full line name word items)
    pub node : (n : NodeText) → OfNode n → OfStatement (statement.Node n)
    pub route : (route : RouteText) → OfStatement (statement.Route route)
    pub proto : (p : ProtoText) → OfProto p → OfStatement (statement.Proto p)
    pub prototype : (p : ProtoText) → AllByRecursion (OfDeclaration OfNode) (out-ProtoText p).interface → AllByRecursion OfStatement (out-ProtoText p).body → OfProto p

  -- ---- parts with a proof beside each part inside

  abbrev Items : Type 0
  Items = (i : BodyItem) × OfItem i

  abbrev Nodes : Type 0
  Nodes = (n : NodeText) × OfNode n

  abbrev Statements : Type 0
  Statements = (s : Statement) × OfStatement s

  abbrev Protos : Type 0
  Protos = (p : ProtoText) × OfProto p

  abbrev plain_given : Given Nodes → Given NodeText
  plain_given g = former-BodyItem-Field-2-at-11.map Nodes NodeText (λ e. e.0) g

  abbrev plain_declaration : Declaration Nodes → Declaration NodeText
  plain_declaration d = former-BodyItem-Declaration-0-at-16.map Nodes NodeText (λ e. e.0) d

  abbrev plain_interface : Declaration Nodes → Declaration NodeText
  plain_interface d = former-ProtoText-interface-at-16.map Nodes NodeText (λ e. e.0) d

  of_nodes : (nodes : List Nodes) → AllByRecursion OfNode (map (λ (e : Nodes). e.0) nodes)
  of_nodes [] = tt
  of_nodes (e ∷ nodes) = (e.1, of_nodes nodes)

  of_given : (g : Given Nodes) → OfGiven OfNode (plain_given g)
  of_given given.Nothing = tt
  of_given (given.Value value.Null) = tt
  of_given (given.Value (value.Truth truth)) = tt
  of_given (given.Value (value.String text)) = tt
  of_given (given.Value (value.Numbers numbers)) = tt
  of_given (given.Value (value.Node e)) = e.1
  of_given (given.Value value.EmptyList) = tt
  of_given (given.Value (value.TruthList truths)) = tt
  of_given (given.Value (value.StringList texts)) = tt
  of_given (given.Value (value.NumberList numbers)) = tt
  of_given (given.Value (value.NodeList nodes)) = of_nodes nodes
  of_given (given.Is name) = tt

  of_interface : (ds : List (Declaration Nodes)) → AllByRecursion (OfDeclaration OfNode) (map plain_interface ds)
  of_interface [] = tt
  of_interface (d ∷ ds) = (of_given d.given, of_interface ds)

  of_items : (items : List Items) → AllByRecursion OfItem (map (λ (e : Items). e.0) items)
  of_items [] = tt
  of_items (e ∷ items) = (e.1, of_items items)

  of_statements : (ss : List Statements) → AllByRecursion OfStatement (map (λ (e : Statements). e.0) ss)
  of_statements [] = tt
  of_statements (e ∷ ss) = (e.1, of_statements ss)

  -- ---- layers

  abbrev plain_item : BodyItem-F Items Nodes Statements Protos → BodyItem-F BodyItem NodeText Statement ProtoText
  plain_item y = map-BodyItem Items Nodes Statements Protos BodyItem NodeText Statement ProtoText (λ e. e.0) (λ e. e.0) (λ e. e.0) (λ e. e.0) y

  abbrev plain_node : NodeText-F Items Nodes Statements Protos → NodeText-F BodyItem NodeText Statement ProtoText
  plain_node y = map-NodeText Items Nodes Statements Protos BodyItem NodeText Statement ProtoText (λ e. e.0) (λ e. e.0) (λ e. e.0) (λ e. e.0) y

  abbrev plain_statement : Statement-F Items Nodes Statements Protos → Statement-F BodyItem NodeText Statement ProtoText
  plain_statement y = map-Statement Items Nodes Statements Protos BodyItem NodeText Statement ProtoText (λ e. e.0) (λ e. e.0) (λ e. e.0) (λ e. e.0) y

  abbrev plain_proto : ProtoText-F Items Nodes Statements Protos → ProtoText-F BodyItem NodeText Statement ProtoText
  plain_proto y = map-ProtoText Items Nodes Statements Protos BodyItem NodeText Statement ProtoText (λ e. e.0) (λ e. e.0) (λ e. e.0) (λ e. e.0) y

  module _ (l : Layers) where
    item_layer : (y : BodyItem-F Items Nodes Statements Protos) → OfItem (roll-BodyItem (plain_item y))
    item_layer (BodyItem-F.Field line name g) = subst OfItem (sym (item.rolls-Field line name (plain_given g))) (l.field line name (plain_given g) (of_given g))
    item_layer (BodyItem-F.Declaration d) = subst OfItem (sym (item.rolls-Declaration (plain_declaration d))) (l.declaration (plain_declaration d) (of_given d.given))
    item_layer (BodyItem-F.BodyItem::Route route) = subst OfItem (sym (item.rolls-Route route)) (l.item_route route)
    item_layer (BodyItem-F.BodyItem::Proto e) = subst OfItem (sym (item.rolls-Proto e.0)) (l.item_proto e.0 e.1)

    node_layer : (y : NodeText-F Items Nodes Statements Protos) → OfNode (roll-NodeText (plain_node y))
    node_layer (NodeText-F.Use line name) = subst OfNode (sym (node.rolls-Use line name)) (l.used line name)
    node_layer (NodeText-F.Full line name word items) =
        subst OfNode (sym (node.rolls-Full line name word (map (λ (e : Items). e.0) items))) (l.full line name word (map (λ (e : Items). e.0) items) (of_items items))

    statement_layer : (y : Statement-F Items Nodes Statements Protos) → OfStatement (roll-Statement (plain_statement y))
    statement_layer (Statement-F.Node e) = subst OfStatement (sym (statement.rolls-Node e.0)) (l.node e.0 e.1)
    statement_layer (Statement-F.Statement::Route route) = subst OfStatement (sym (statement.rolls-Route route)) (l.route route)
    statement_layer (Statement-F.Statement::Proto e) = subst OfStatement (sym (statement.rolls-Proto e.0)) (l.proto e.0 e.1)

    proto_layer : (y : ProtoText-F Items Nodes Statements Protos) → OfProto (roll-ProtoText (plain_proto y))
    proto_layer y =
        let opened = sym (out-roll-ProtoText (plain_proto y)) in
        l.prototype (roll-ProtoText (plain_proto y))
        (subst (λ (q : ProtoText-F BodyItem NodeText Statement ProtoText). AllByRecursion (OfDeclaration OfNode) q.interface) opened (of_interface y.interface))
        (subst (λ (q : ProtoText-F BodyItem NodeText Statement ProtoText). AllByRecursion OfStatement q.body) opened (of_statements y.body))

    pub every_statement : (s : Statement) → OfStatement s
    every_statement =
        ind-Statement OfItem OfNode OfStatement OfProto
        (λ x y e. subst (λ (z : BodyItem-F BodyItem NodeText Statement ProtoText). OfItem (roll-BodyItem z)) e (item_layer y))
        (λ x y e. subst (λ (z : NodeText-F BodyItem NodeText Statement ProtoText). OfNode (roll-NodeText z)) e (node_layer y))
        (λ x y e. subst (λ (z : Statement-F BodyItem NodeText Statement ProtoText). OfStatement (roll-Statement z)) e (statement_layer y))
        (λ x y e. subst (λ (z : ProtoText-F BodyItem NodeText Statement ProtoText). OfProto (roll-ProtoText z)) e (proto_layer y))

    pub every : (ss : List Statement) → AllByRecursion OfStatement ss
    every [] = tt
    every (s ∷ ss) = (every_statement s, every ss)
