-- What is left of each part of a tree where its PROTOs are taken out.
use Rattle.std.proofs.Common.{◌≡◌, ℕ, List, [], ◌∷◌, ◌++◌, map, Option, refl, ap, sym, ◌∙◌}
use Rattle.std.specs.List.{flat_map}
use Rattle.classic_tree.specs.declared.tree.BodyItem.{BodyItem, fold-roll-BodyItem}
use Rattle.classic_tree.specs.declared.tree.BodyItem.TheOpen.{BodyItem-F, NodeText-F, Statement-F}
use Rattle.classic_tree.specs.declared.tree.BodyItem.TheVariants as item
use Rattle.classic_tree.specs.declared.tree.Declaration.{Declaration}
use Rattle.classic_tree.specs.declared.tree.Given.{Given}
use Rattle.classic_tree.specs.declared.tree.NodeText.{NodeText, fold-roll-NodeText}
use Rattle.classic_tree.specs.declared.tree.NodeText.TheVariants as node
use Rattle.classic_tree.specs.declared.tree.ProtoText.{ProtoText}
use Rattle.classic_tree.specs.declared.tree.RouteText.{RouteText}
use Rattle.classic_tree.specs.declared.tree.Statement.{fold-roll-Statement}
use Rattle.classic_tree.specs.declared.tree.Statement.TheVariants as statement
use Rattle.classic_tree.proofs.Mapped.{declaration_mapped, given_mapped}
use Rattle.proto_meaning.specs.Names.{Name}
use Rattle.laws_documents.specs.Without.{Items, Statements, item_step, left_items, left_node, left_statements, node_step, proto_step, statement_step, these}

flat_mapped : {A : Type 0} (f : A → Items) (xs : List A) → flat_map these (map f xs) ≡ flat_map f xs
flat_mapped f [] = refl
flat_mapped f (x ∷ xs) = ap (λ rest. f x ++ rest) (flat_mapped f xs)

pub left_field : (line : ℕ) (name : Name) (g : Given NodeText) → left_items (item.Field line name g) ≡ item.Field line name (given_mapped left_node g) ∷ []
unfolding item_step
left_field line name g = ap left_items (sym (item.rolls-Field line name g)) ∙ fold-roll-BodyItem Items NodeText Statements (Unit {0}) item_step node_step statement_step proto_step (BodyItem-F.Field line name g)

pub left_declaration : (d : Declaration NodeText) → left_items (item.Declaration d) ≡ item.Declaration (declaration_mapped left_node d) ∷ []
unfolding item_step
left_declaration d = ap left_items (sym (item.rolls-Declaration d)) ∙ fold-roll-BodyItem Items NodeText Statements (Unit {0}) item_step node_step statement_step proto_step (BodyItem-F.Declaration d)

pub left_item_route : (route : RouteText) → left_items (item.Route route) ≡ item.Route route ∷ []
unfolding item_step
left_item_route route = ap left_items (sym (item.rolls-Route route)) ∙ fold-roll-BodyItem Items NodeText Statements (Unit {0}) item_step node_step statement_step proto_step (BodyItem-F.BodyItem::Route route)

pub left_item_proto : (p : ProtoText) → left_items (item.Proto p) ≡ []
unfolding item_step
left_item_proto p = ap left_items (sym (item.rolls-Proto p)) ∙ fold-roll-BodyItem Items NodeText Statements (Unit {0}) item_step node_step statement_step proto_step (BodyItem-F.BodyItem::Proto p)

pub left_use : (line : ℕ) (name : Name) → left_node (node.Use line name) ≡ node.Use line name
unfolding node_step
left_use line name = ap left_node (sym (node.rolls-Use line name)) ∙ fold-roll-NodeText Items NodeText Statements (Unit {0}) item_step node_step statement_step proto_step (NodeText-F.Use line name)

pub left_full : (line : ℕ) (name : Option Name) (word : Name) (is : List BodyItem) → left_node (node.Full line name word is) ≡ node.Full line name word (flat_map left_items is)
unfolding node_step
left_full line name word is =
    ap left_node (sym (node.rolls-Full line name word is)) ∙ fold-roll-NodeText Items NodeText Statements (Unit {0}) item_step node_step statement_step proto_step (NodeText-F.Full line name word is)
    ∙ ap (node.Full line name word) (flat_mapped left_items is)

pub left_statement : (n : NodeText) → left_statements (statement.Node n) ≡ statement.Node (left_node n) ∷ []
unfolding statement_step
left_statement n = ap left_statements (sym (statement.rolls-Node n)) ∙ fold-roll-Statement Items NodeText Statements (Unit {0}) item_step node_step statement_step proto_step (Statement-F.Node n)

pub left_route : (route : RouteText) → left_statements (statement.Route route) ≡ statement.Route route ∷ []
unfolding statement_step
left_route route = ap left_statements (sym (statement.rolls-Route route)) ∙ fold-roll-Statement Items NodeText Statements (Unit {0}) item_step node_step statement_step proto_step (Statement-F.Statement::Route route)

pub left_proto : (p : ProtoText) → left_statements (statement.Proto p) ≡ []
unfolding statement_step
left_proto p = ap left_statements (sym (statement.rolls-Proto p)) ∙ fold-roll-Statement Items NodeText Statements (Unit {0}) item_step node_step statement_step proto_step (Statement-F.Statement::Proto p)
