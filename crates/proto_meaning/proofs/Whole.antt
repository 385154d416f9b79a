-- The law, by the rules of a resolved tree.
use Rattle.std.proofs.Common.{◌≡◌, ℕ, Bool, true, List, [], Option, Result, Ok, Err, map, refl, ap, sym, ◌∙◌, subst}
use Rattle.std.proofs.lemmas.List.{length-map}
use Rattle.std.specs.Prelude.{length}
use Rattle.classic_tree.specs.declared.tree.BodyItem.{BodyItem}
use Rattle.classic_tree.specs.declared.tree.Given.{Given}
use Rattle.classic_tree.specs.declared.tree.NodeText.{NodeText}
use Rattle.classic_tree.specs.declared.tree.Statement.{Statement}
use Rattle.classic_tree.specs.declared.tree.Statement.TheVariants as text_statement
use Rattle.classic_tree.specs.declared.tree.BodyItem.TheOpen.{Statement-F}
use Rattle.classic_tree.specs.declared.tree.RouteText.{RouteText}
use Rattle.classic_tree.proofs.Mapped.{given_mapped}
use Rattle.proto_flat.specs.declared.fault.ExpandFault.{ExpandFault}
use Rattle.proto_flat.specs.declared.flat.Flat.{Flat}
use Rattle.proto_flat.specs.declared.flat.Header.{Header}
use Rattle.proto_meaning.specs.Limits.{Met, follow, and_then}
use Rattle.proto_meaning.specs.Sight.{Sight, Names, Prototype, no_names}
use Rattle.proto_meaning.specs.Flat as flat
use Rattle.proto_meaning.specs.Flat.{Walk, Does, comes, begin, through, Node, Stated}
use Rattle.proto_meaning.proofs.SightLaw.{GoodItem}
use Rattle.proto_meaning.proofs.SightWhole.{every_good}
use Rattle.proto_meaning.proofs.Trees.{statement-node, statement-route}
use Rattle.proto_meaning.specs.declared.tree.BodyTree.{BodyTree}
use Rattle.proto_meaning.specs.trees.Given.{GivenTree}
use Rattle.proto_meaning.specs.declared.tree.ItemTree.{ItemTree}
use Rattle.proto_meaning.specs.declared.tree.NodeTree.{NodeTree}
use Rattle.proto_meaning.specs.trees.Meaning.{item, node, statement}
use Rattle.proto_meaning.specs.trees.Resolved as rule
use Rattle.proto_meaning.specs.trees.Resolved.{Seen, IsNode, AreNodes, IsGiven, IsItem, AreItems, AreStatements}
use Rattle.proto_meaning.specs.trees.TreeLaws.{TextsStandForTheSame}
use Rattle.proto_meaning.proofs.Same.{Same, hid}
use Rattle.proto_meaning.proofs.Good.{every_node, every_field, every_declaration, every_route, every_item_proto}
use Rattle.proto_meaning.proofs.Given.{NodeSame, NodesSame, GivenSame, no_nodes_same, next_nodes_same, last_nodes_same, nothing_same, is_same, plain_same, one_same, many_same, left_out_given}
use Rattle.proto_meaning.proofs.Parts.{ItemSame, ItemsSame, no_items_same, next_items_same, last_items_same, declared_items_same, mapped, field_same, declaration_same, route_same, wrong_same, use_same, full_same}
use Rattle.proto_meaning.proofs.Statements.{Puts, StatementsSame, no_statements_same, next_statements_same, last_statements_same, declared_statements_same, wrong_statements_same, node_stated_sees, node_stated_same, route_stated_sees, route_stated_same, put_root, puts_roots}

item_good : (ps : List Prototype) (taken : Option Names) (i : BodyItem) (t : ItemTree) (s : Sight) (r : Seen) → IsItem ps taken i t s r → GoodItem (flat.item i)
item_good ps taken i t s r (rule.field _ line name g given _ _ h) = every_field line name.now g
item_good ps taken i t s r (rule.declaration _ d given _ _ h) = every_declaration d.now
item_good ps taken i t s r (rule.route _ route _) = every_route route.now
item_good ps taken i t s r (rule.wrong _ p _ e h) = every_item_proto p

mutual
  pub node_means : (ps : List Prototype) (n : NodeText) (t : NodeTree) (s : Sight) (r : Seen) → IsNode ps n t s r → NodeSame s (flat.node n) (node ps t) r
  node_means ps n t s r (rule.used line name _) = use_same ps s line name
  node_means ps n t s r (rule.full line name word w is ts _ _ means h) = full_same ps s line name word w is ts r means (items_mean ps _ is ts s r h)

  pub nodes_mean : (ps : List Prototype) (ns : List NodeText) (ts : List NodeTree) (s : Sight) (r : Seen) → AreNodes ps ns ts s r → NodesSame s (map flat.node ns) (map (node ps) ts) r
  nodes_mean ps ns ts s r (rule.no_nodes _) = no_nodes_same s
  nodes_mean ps ns ts s r (rule.next_node n t more trees _ u _ h rest) = next_nodes_same s u (flat.node n) (node ps t) (map flat.node more) (map (node ps) trees) r (every_node n) (node_means ps n t s (Ok u) h) (nodes_mean ps more trees u r rest)
  nodes_mean ps ns ts s r (rule.last_node n t more _ e h) = last_nodes_same s (flat.node n) (node ps t) (map flat.node more) e (every_node n) (node_means ps n t s (Err e) h)

  pub given_means : (ps : List Prototype) (kept : Bool) (g : Given NodeText) (t : GivenTree NodeTree) (s : Sight) (r : Seen) → IsGiven ps kept g t s r → GivenSame kept s (given_mapped flat.node g) (mapped ps t) r
  given_means ps kept g t s r (rule.nothing _ _) = nothing_same kept s
  given_means ps kept g t s r (rule.is _ name _) = is_same kept name s
  given_means ps kept g t s r (rule.plain v _ h) = plain_same v s h
  given_means ps kept g t s r (rule.one n x _ _ h) = one_same s (flat.node n) (node ps x) r (node_means ps n x s r h)
  given_means ps kept g t s r (rule.many ns ts _ _ h) = many_same s (length ns) (map flat.node ns) (map (node ps) ts) r (length-map ns flat.node) (nodes_mean ps ns ts s r h)
  given_means ps kept g t s r (rule.left_out v _ _ h) = left_out_given s v r h

  pub item_means : (ps : List Prototype) (taken : Option Names) (i : BodyItem) (t : ItemTree) (s : Sight) (r : Seen) → IsItem ps taken i t s r → ItemSame taken s (flat.item i) (item ps t) r
  item_means ps taken i t s r (rule.field _ line name g x _ _ h) = field_same ps taken s line name g x r (given_means ps _ g x s r h)
  item_means ps taken i t s r (rule.declaration _ d x _ _ h) = declaration_same ps taken s d x r (given_means ps true d.now.given x s r h)
  item_means ps taken i t s r (rule.route _ route _) = route_same ps taken s route
  item_means ps taken i t s r (rule.wrong _ p _ e h) = wrong_same ps taken s p e h

  pub items_mean : (ps : List Prototype) (taken : Option Names) (is : List BodyItem) (ts : List ItemTree) (s : Sight) (r : Seen) → AreItems ps taken is ts s r → ItemsSame taken s (map flat.item is) (map (item ps) ts) r
  items_mean ps taken is ts s r (rule.no_items _ _) = no_items_same taken s
  items_mean ps taken is ts s r (rule.next_item _ i t more trees _ u _ h rest) =
      next_items_same taken s u (flat.item i) (item ps t) (map flat.item more) (map (item ps) trees) r (item_good ps taken i t s (Ok u) h) (item_means ps taken i t s (Ok u) h) (items_mean ps taken more trees u r rest)
  items_mean ps taken is ts s r (rule.last_item _ i t more _ e h) =
      last_items_same taken s (flat.item i) (item ps t) (map flat.item more) e (item_good ps taken i t s (Err e) h) (item_means ps taken i t s (Err e) h)
  items_mean ps taken is ts s r (rule.declared_item _ p more _ _ u _ h rest) = declared_items_same taken p s u (map flat.item more) (map (item ps) ts) r h (items_mean ps taken more ts u r rest)

-- ---- statements

module _ (put : Stated → List ℕ → Does (List ℕ)) (puts : Puts put) where
  stated_sees : (n : NodeText) (s : Sight) (r : Seen) → (flat.node n).sees s ≡ r → (flat.statement (text_statement.Node n)).1.sees s ≡ r
  stated_sees n s r e = ap (λ (x : Stated). x.1.sees s) (statement-node n {p = flat.node n} refl) ∙ node_stated_sees (flat.node n) s ∙ e

  stated_same : (n : NodeText) (m : Node) (s : Sight) → Same s (flat.node n).does m.does → Same s (flat.statement (text_statement.Node n)).1.does (flat.statement_step (Statement-F.Node m)).1.does
  stated_same n m s h = subst (λ (x : Stated). Same s x.1.does (flat.statement_step (Statement-F.Node m)).1.does) (sym (statement-node n {p = flat.node n} refl)) (node_stated_same s (flat.node n) m h)

  routed_sees : (route : RouteText) (s : Sight) → (flat.statement (text_statement.Route route)).1.sees s ≡ Ok s
  routed_sees route s = ap (λ (x : Stated). x.1.sees s) (statement-route route) ∙ route_stated_sees route s

  routed_same : (route : RouteText) (s : Sight) → Same s (flat.statement (text_statement.Route route)).1.does (flat.statement_step (Statement-F.Statement::Route route)).1.does
  routed_same route s = subst (λ (x : Stated). Same s x.1.does (flat.statement_step (Statement-F.Statement::Route route)).1.does) (sym (statement-route route)) (route_stated_same s route)

  pub statements_mean : (ps : List Prototype) (xs : List Statement) (ts : List BodyTree) (s : Sight) (r : Seen) → AreStatements ps xs ts s r → StatementsSame put puts s (map flat.statement xs) (map (statement ps) ts) r
  statements_mean ps xs ts s r (rule.none _) = no_statements_same put puts s
  statements_mean ps xs ts s r (rule.node n t more trees _ u _ h rest) =
      let same = node_means ps n t s (Ok u) h in
      next_statements_same put puts s u (flat.statement (text_statement.Node n)) (flat.statement_step (Statement-F.Node (node ps t))) (map flat.statement more) (map (statement ps) trees) r (every_good (text_statement.Node n))
      (stated_sees n s (Ok u) same.sees) (stated_same n (node ps t) s same.does) (statements_mean ps more trees u r rest)
  statements_mean ps xs ts s r (rule.last n t more _ e h) =
      let same = node_means ps n t s (Err e) h in
      last_statements_same put puts s (flat.statement (text_statement.Node n)) (flat.statement_step (Statement-F.Node (node ps t))) (map flat.statement more) e (every_good (text_statement.Node n))
      (stated_sees n s (Err e) same.sees) (stated_same n (node ps t) s same.does)
  statements_mean ps xs ts s r (rule.route_statement route more trees _ _ rest) =
      next_statements_same put puts s s (flat.statement (text_statement.Route route.now)) (flat.statement_step (Statement-F.Statement::Route route.now)) (map flat.statement more) (map (statement ps) trees) r (every_good (text_statement.Route route.now))
      (routed_sees route.now s) (routed_same route.now s) (statements_mean ps more trees s r rest)
  statements_mean ps xs ts s r (rule.declared p more _ _ u _ h rest) = declared_statements_same put puts p s u (map flat.statement more) (map (statement ps) ts) r h (statements_mean ps more ts u r rest)
  statements_mean ps xs ts s r (rule.wrong_statement p more _ e h) = wrong_statements_same put puts p s (map flat.statement more) e h

-- ---- a text

abbrev flat_of : Header → List ℕ → Walk → Flat
flat_of header roots w =
    record { header = header; nodes = w.put.nodes; roots = roots; helpers = w.put.helpers; routes = w.scope.routes w.scope.braces }

flat_after : (header : Header) (met : List Met) (c : Result (List ℕ × Walk) ExpandFault)
    → follow met (hid c) (λ p. comes (Ok (flat_of header p.0 p.1))) ≡ follow met c (λ p. comes (Ok (flat_of header p.0 p.1)))
flat_after header met (Ok p) = refl
flat_after header met (Err e) = refl

pub texts_stand_for_the_same : TextsStandForTheSame
texts_stand_for_the_same ps header text trees r h =
    let w = begin [] (record { nodes = []; helpers = [] }) in
    ap (λ o. and_then o (λ p. comes (Ok (flat_of header p.0 p.1)))) ((statements_mean put_root puts_roots ps text trees (record { here = []; outside = []; taken = no_names }) r h).does [] w refl)
    ∙ flat_after header (through put_root (map flat.statement text) [] w).met (through put_root (map flat.statement text) [] w).comes
