-- The law of sight, for each part of a tree.
use Rattle.std.proofs.Common.{◌≡◌, Bool, true, false, List, [], ◌∷◌, Ok, Err, map, refl, ap, sym, subst}
use Rattle.std.specs.List.{AllByRecursion}
use Rattle.classic_tree.specs.declared.tree.RawValue.TheVariants as value
use Rattle.classic_tree.specs.declared.tree.Given.{Given}
use Rattle.classic_tree.specs.declared.tree.Given.TheVariants as given
use Rattle.classic_tree.specs.declared.tree.BodyItem.{BodyItem}
use Rattle.classic_tree.specs.declared.tree.NodeText.{NodeText}
use Rattle.classic_tree.specs.declared.tree.Statement.{Statement}
use Rattle.classic_tree.specs.declared.tree.ProtoText.{ProtoText, fold_out-ProtoText}
use Rattle.classic_tree.proofs.Mapped.{given_mapped, declaration_mapped}
use Rattle.proto_meaning.specs.Sight.{Sight, no_names, nodes_in}
use Rattle.proto_meaning.specs.Flat.{Walk, Item, Node, Stated, Proto, item_step, node_step, statement_step, proto_step, statement}
use Rattle.proto_meaning.specs.Laws.{SightIsOfTheText}
use Rattle.proto_meaning.specs.Flat.{item as item_part, node as node_part, proto as proto_part}
use Rattle.proto_meaning.proofs.Trees.{item-field, item-declaration, item-route, item-proto, node-use, node-full, statement-node, statement-route, statement-proto}
use Rattle.proto_meaning.proofs.Induction.{Layers, OfGiven, every_statement}
use Rattle.proto_meaning.proofs.SightLaw.{Seen, bare, bared, Any, After, GoodNode, GoodItem, GoodProto, GoodStated, field_good, declaration_good, route_good, proto_item_good}
use Rattle.proto_meaning.proofs.SightNodes.{use_good, full_good, node_stated, route_stated, proto_stated, prototype_good}

abbrev OfItem : BodyItem → Type 0
OfItem i = GoodItem (item_part i)

abbrev OfNode : NodeText → Type 0
OfNode n = GoodNode (node_part n)

abbrev OfStatement : Statement → Type 0
OfStatement s = GoodStated (statement s)

abbrev OfProto : ProtoText → Type 0
OfProto p = GoodProto (proto_part p)

nodes_mapped : (ns : List NodeText) → AllByRecursion OfNode ns → AllByRecursion GoodNode (map node_part ns)
nodes_mapped [] h = tt
nodes_mapped (n ∷ ns) h = (h.0, nodes_mapped ns h.1)

items_mapped : (is : List BodyItem) → AllByRecursion OfItem is → AllByRecursion GoodItem (map item_part is)
items_mapped [] h = tt
items_mapped (i ∷ is) h = (h.0, items_mapped is h.1)

in_given : (g : Given NodeText) → OfGiven OfNode g → AllByRecursion GoodNode (nodes_in (given_mapped node_part g))
in_given given.Nothing h = tt
in_given (given.Value value.Null) h = tt
in_given (given.Value (value.Truth truth)) h = tt
in_given (given.Value (value.String text)) h = tt
in_given (given.Value (value.Numbers numbers)) h = tt
in_given (given.Value (value.Node n)) h = (h, tt)
in_given (given.Value value.EmptyList) h = tt
in_given (given.Value (value.TruthList truths)) h = tt
in_given (given.Value (value.StringList texts)) h = tt
in_given (given.Value (value.NumberList numbers)) h = tt
in_given (given.Value (value.NodeList nodes)) h = nodes_mapped nodes h
in_given (given.Is name) h = tt

layers : Layers OfItem OfNode OfStatement OfProto
layers = record {
  field = λ line name g h. subst GoodItem (sym (item-field line name g {h = given_mapped node_part g} refl)) (field_good line name (given_mapped node_part g) (in_given g h));
  declaration = λ d h. subst GoodItem (sym (item-declaration d {h = declaration_mapped node_part d} refl)) (declaration_good (declaration_mapped node_part d) (in_given d.given h));
  item_route = λ r. subst GoodItem (sym (item-route r)) (route_good r);
  item_proto = λ p h. subst GoodItem (sym (item-proto p {q = proto_part p} refl)) (proto_item_good (proto_part p) h);
  used = λ line name. subst GoodNode (sym (node-use line name)) (use_good line name);
  full = λ line name word is h. subst GoodNode (sym (node-full line name word is {ps = map item_part is} refl)) (full_good line name word (map item_part is) (items_mapped is h));
  node = λ n h. subst GoodStated (sym (statement-node n {p = node_part n} refl)) (node_stated (node_part n) h);
  route = λ r. subst GoodStated (sym (statement-route r)) (route_stated r);
  proto = λ p h. subst GoodStated (sym (statement-proto p {q = proto_part p} refl)) (proto_stated (proto_part p) h);
  prototype = λ p ds ss. subst GoodProto (sym (fold_out-ProtoText Item Node Stated Proto item_step node_step statement_step proto_step p)) (prototype_good _);
}

pub every_good : (s : Statement) → GoodStated (statement s)
every_good = every_statement OfItem OfNode OfStatement OfProto layers

-- ---- the law

abbrev sight_in : Seen → Sight
sight_in (Ok s) = s
sight_in (Err e) = record { here = []; outside = []; taken = no_names }

abbrev is_there : Seen → Bool
is_there (Ok s) = true
is_there (Err e) = false

abbrev Only : Bool → Type 0 → Type 0
Only true G = G
Only false G = Unit {0}

told : (v : Walk) (r : Seen) → bared r ≡ Ok (bare v.sight) → (t : Sight) × (r ≡ Ok t) × (t.here ≡ v.sight.here) × (t.outside ≡ v.sight.outside)
told v (Ok t) e = (t, refl, ap (λ r. (sight_in r).here) e, ap (λ r. (sight_in r).outside) e)
told v (Err f) e = subst (λ b. Only b ((t : Sight) × (Err f ≡ Ok t) × (t.here ≡ v.sight.here) × (t.outside ≡ v.sight.outside))) (ap is_there e) tt

pub sight_is_of_the_text : SightIsOfTheText
sight_is_of_the_text s w v ns is = told v ((statement s).1.sees w.sight) (subst (λ c. After Any c ((statement s).1.sees w.sight)) is ((every_good s).follows w)).1
