-- Every part of a text goes as far as it sees: the law of sight of proto_meaning, part by part.
use Rattle.std.proofs.Common.{◌≡◌, ℕ, List, [], ◌∷◌, Result, Ok, Err, map, refl, sym, subst}
use Rattle.std.specs.List.{AllByRecursion}
use Rattle.classic_tree.specs.declared.tree.BodyItem.TheVariants as text_item
use Rattle.classic_tree.specs.declared.tree.Declaration.{Declaration}
use Rattle.classic_tree.specs.declared.tree.Given.{Given}
use Rattle.classic_tree.specs.declared.tree.Given.TheVariants as given
use Rattle.classic_tree.specs.declared.tree.NodeText.{NodeText}
use Rattle.classic_tree.specs.declared.tree.ProtoText.{ProtoText, fold_out-ProtoText}
use Rattle.classic_tree.specs.declared.tree.RawValue.TheVariants as value
use Rattle.classic_tree.specs.declared.tree.RouteText.{RouteText}
use Rattle.classic_tree.specs.declared.tree.Statement.TheVariants as text_statement
use Rattle.classic_tree.proofs.Mapped.{given_mapped, declaration_mapped}
use Rattle.proto_flat.specs.declared.fault.ExpandFault.{ExpandFault}
use Rattle.proto_meaning.specs.Limits.{Met, follow}
use Rattle.proto_meaning.specs.Names.{Name}
use Rattle.proto_meaning.specs.Sight.{nodes_in}
use Rattle.proto_meaning.specs.Flat.{Walk, pure, see, Node, Item, Stated, Proto, item, node, proto, item_step, node_step, statement_step, proto_step}
use Rattle.proto_meaning.proofs.Trees.{item-field, item-declaration, item-route, item-proto, statement-node}
use Rattle.proto_meaning.proofs.SightLaw.{Any, After, GoodNode, GoodItem, GoodProto, GoodStated, field_good, declaration_good, route_good, proto_item_good}
use Rattle.proto_meaning.proofs.SightNodes.{prototype_good}
use Rattle.proto_meaning.proofs.SightWhole.{every_good}
use Rattle.proto_meaning.specs.trees.Resolved.{Seen}

node_after : (met : List Met) (c : Result (ℕ × Walk) ExpandFault) (r : Seen) → After Any (follow met c (λ p. pure (p.0 ∷ []) p.1)).comes r → After Any c r
node_after met (Ok p) r h = (tt, h.1)
node_after met (Err e) r h = tt

pub every_node : (n : NodeText) → GoodNode (node n)
unfolding statement_step
every_node n =
    let stated = subst GoodStated (statement-node n {p = node n} refl) (every_good (text_statement.Node n)) in
    record { free = stated.free; follows = λ w. node_after ((node n).does w).met ((node n).does w).comes ((node n).sees w.sight) (stated.follows w) }

pub every_node_of : (ns : List NodeText) → AllByRecursion GoodNode (map node ns)
every_node_of [] = tt
every_node_of (n ∷ ns) = (every_node n, every_node_of ns)

pub every_given : (g : Given NodeText) → AllByRecursion GoodNode (nodes_in (given_mapped node g))
every_given given.Nothing = tt
every_given (given.Value value.Null) = tt
every_given (given.Value (value.Truth truth)) = tt
every_given (given.Value (value.String text)) = tt
every_given (given.Value (value.Numbers numbers)) = tt
every_given (given.Value (value.Node n)) = (every_node n, tt)
every_given (given.Value value.EmptyList) = tt
every_given (given.Value (value.TruthList truths)) = tt
every_given (given.Value (value.StringList texts)) = tt
every_given (given.Value (value.NumberList numbers)) = tt
every_given (given.Value (value.NodeList ns)) = every_node_of ns
every_given (given.Is name) = tt

pub every_proto : (p : ProtoText) → GoodProto (proto p)
every_proto p = subst GoodProto (sym (fold_out-ProtoText Item Node Stated Proto item_step node_step statement_step proto_step p)) (prototype_good _)

-- a declaration changes what is in sight alone
pub proto_does : (p : ProtoText) → (proto p).does ≡ see (proto p).sees
unfolding proto_step
proto_does p = subst (λ (q : Proto). q.does ≡ see q.sees) (sym (fold_out-ProtoText Item Node Stated Proto item_step node_step statement_step proto_step p)) refl

pub every_field : (line : ℕ) (name : Name) (g : Given NodeText) → GoodItem (item (text_item.Field line name g))
every_field line name g = subst GoodItem (sym (item-field line name g {h = given_mapped node g} refl)) (field_good line name (given_mapped node g) (every_given g))

pub every_declaration : (d : Declaration NodeText) → GoodItem (item (text_item.Declaration d))
every_declaration d = subst GoodItem (sym (item-declaration d {h = declaration_mapped node d} refl)) (declaration_good (declaration_mapped node d) (every_given d.given))

pub every_route : (r : RouteText) → GoodItem (item (text_item.Route r))
every_route r = subst GoodItem (sym (item-route r)) (route_good r)

pub every_item_proto : (p : ProtoText) → GoodItem (item (text_item.Proto p))
every_item_proto p = subst GoodItem (sym (item-proto p {q = proto p} refl)) (proto_item_good (proto p) (every_proto p))
