-- The braces in each part of a tree.
use Rattle.std.proofs.Common.{◌≡◌, ℕ, List, [], ◌∷◌, ◌++◌, map, Option, refl, ap, sym, ◌∙◌}
use Rattle.std.specs.List.{flat_map}
use Rattle.classic_tree.specs.declared.tree.BodyItem.{BodyItem, fold-roll-BodyItem}
use Rattle.classic_tree.specs.declared.tree.BodyItem.TheOpen.{BodyItem-F, NodeText-F, Statement-F}
use Rattle.classic_tree.specs.declared.tree.BodyItem.TheVariants as item
use Rattle.classic_tree.specs.declared.tree.Declaration.{Declaration}
use Rattle.classic_tree.specs.declared.tree.Given.{Given}
use Rattle.classic_tree.specs.declared.tree.Given.TheVariants as given
use Rattle.classic_tree.specs.declared.tree.NodeText.{NodeText, fold-roll-NodeText}
use Rattle.classic_tree.specs.declared.tree.NodeText.TheVariants as node
use Rattle.classic_tree.specs.declared.tree.ProtoText.{ProtoText}
use Rattle.classic_tree.specs.declared.tree.RawValue.TheVariants as value
use Rattle.classic_tree.specs.declared.tree.RouteText.{RouteText}
use Rattle.classic_tree.specs.declared.tree.Statement.{fold-roll-Statement}
use Rattle.classic_tree.specs.declared.tree.Statement.TheVariants as statement
use Rattle.classic_tree.proofs.Mapped.{given_mapped}
use Rattle.laws_documents.specs.Closings.{Braces, ClosedBraces, in_given, in_item, in_node, in_statement, inside, item_step, node_step, proto_step, statement_step}

flat_mapped : {A : Type 0} (f : A → List Braces) (xs : List A) → flat_map inside (map f xs) ≡ flat_map f xs
flat_mapped f [] = refl
flat_mapped f (x ∷ xs) = ap (λ rest. f x ++ rest) (flat_mapped f xs)

in_mapped : (f : NodeText → List Braces) (g : Given NodeText) → in_given inside (given_mapped f g) ≡ in_given f g
in_mapped f given.Nothing = refl
in_mapped f (given.Value value.Null) = refl
in_mapped f (given.Value (value.Truth truth)) = refl
in_mapped f (given.Value (value.String text)) = refl
in_mapped f (given.Value (value.Numbers numbers)) = refl
in_mapped f (given.Value (value.Node inner)) = refl
in_mapped f (given.Value value.EmptyList) = refl
in_mapped f (given.Value (value.TruthList truths)) = refl
in_mapped f (given.Value (value.StringList texts)) = refl
in_mapped f (given.Value (value.NumberList numbers)) = refl
in_mapped f (given.Value (value.NodeList nodes)) = flat_mapped f nodes
in_mapped f (given.Is other) = refl

pub in_field : (line : ℕ) (name : List ℕ) (g : Given NodeText) → in_item (item.Field line name g) ≡ in_given in_node g
unfolding item_step
in_field line name g =
    ap in_item (sym (item.rolls-Field line name g)) ∙ fold-roll-BodyItem ClosedBraces ClosedBraces ClosedBraces ClosedBraces item_step node_step statement_step proto_step (BodyItem-F.Field line name g) ∙ in_mapped in_node g

pub in_declaration : (d : Declaration NodeText) → in_item (item.Declaration d) ≡ in_given in_node d.given
unfolding item_step
in_declaration d =
    ap in_item (sym (item.rolls-Declaration d)) ∙ fold-roll-BodyItem ClosedBraces ClosedBraces ClosedBraces ClosedBraces item_step node_step statement_step proto_step (BodyItem-F.Declaration d) ∙ in_mapped in_node d.given

pub in_item_route : (route : RouteText) → in_item (item.Route route) ≡ []
unfolding item_step
in_item_route route = ap in_item (sym (item.rolls-Route route)) ∙ fold-roll-BodyItem ClosedBraces ClosedBraces ClosedBraces ClosedBraces item_step node_step statement_step proto_step (BodyItem-F.BodyItem::Route route)

pub in_item_proto : (p : ProtoText) → in_item (item.Proto p) ≡ []
unfolding item_step
in_item_proto p = ap in_item (sym (item.rolls-Proto p)) ∙ fold-roll-BodyItem ClosedBraces ClosedBraces ClosedBraces ClosedBraces item_step node_step statement_step proto_step (BodyItem-F.BodyItem::Proto p)

pub in_use : (line : ℕ) (name : List ℕ) → in_node (node.Use line name) ≡ []
unfolding node_step
in_use line name = ap in_node (sym (node.rolls-Use line name)) ∙ fold-roll-NodeText ClosedBraces ClosedBraces ClosedBraces ClosedBraces item_step node_step statement_step proto_step (NodeText-F.Use line name)

pub in_full : (line : ℕ) (name : Option (List ℕ)) (word : List ℕ) (items : List BodyItem)
    → in_node (node.Full line name word items) ≡ flat_map in_item items ++ record { word = word; name = name } ∷ []
unfolding node_step
in_full line name word items =
    ap in_node (sym (node.rolls-Full line name word items)) ∙ fold-roll-NodeText ClosedBraces ClosedBraces ClosedBraces ClosedBraces item_step node_step statement_step proto_step (NodeText-F.Full line name word items)
    ∙ ap (λ first. first ++ record { word = word; name = name } ∷ []) (flat_mapped in_item items)

pub in_node_statement : (n : NodeText) → in_statement (statement.Node n) ≡ in_node n
unfolding statement_step
in_node_statement n = ap in_statement (sym (statement.rolls-Node n)) ∙ fold-roll-Statement ClosedBraces ClosedBraces ClosedBraces ClosedBraces item_step node_step statement_step proto_step (Statement-F.Node n)

pub in_route : (route : RouteText) → in_statement (statement.Route route) ≡ []
unfolding statement_step
in_route route = ap in_statement (sym (statement.rolls-Route route)) ∙ fold-roll-Statement ClosedBraces ClosedBraces ClosedBraces ClosedBraces item_step node_step statement_step proto_step (Statement-F.Statement::Route route)

pub in_proto : (p : ProtoText) → in_statement (statement.Proto p) ≡ []
unfolding statement_step
in_proto p = ap in_statement (sym (statement.rolls-Proto p)) ∙ fold-roll-Statement ClosedBraces ClosedBraces ClosedBraces ClosedBraces item_step node_step statement_step proto_step (Statement-F.Statement::Proto p)
