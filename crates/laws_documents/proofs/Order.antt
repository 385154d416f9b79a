-- What a flat document names stands in it, and what a node holds has a lower number.
use Rattle.std.proofs.Common.{◌≡◌, ℕ, zero, suc, ◌+◌, nat_lt, List, [], ◌∷◌, ◌++◌, length, Result, Ok, Err, map, slice_get, refl, sym, subst, arith}
use Rattle.std.specs.List.{AllByRecursion}
use Rattle.classic_tree.specs.declared.tree.BodyItem.{BodyItem}
use Rattle.classic_tree.specs.declared.tree.Declaration.{Declaration}
use Rattle.classic_tree.specs.declared.tree.Document.{Document}
use Rattle.classic_tree.specs.declared.tree.Given.{Given}
use Rattle.classic_tree.specs.declared.tree.Given.TheVariants as given
use Rattle.classic_tree.specs.declared.tree.NodeText.{NodeText}
use Rattle.classic_tree.specs.declared.tree.ProtoText.{ProtoText, fold_out-ProtoText, out-ProtoText}
use Rattle.classic_tree.specs.declared.tree.RawValue.TheVariants as value
use Rattle.classic_tree.specs.declared.tree.Statement.{Statement}
use Rattle.classic_tree.proofs.Mapped.{given_mapped, declaration_mapped, interface_mapped}
use Rattle.proto_flat.specs.declared.fault.ExpandFault.{ExpandFault}
use Rattle.proto_flat.specs.declared.flat.Flat.{Flat}
use Rattle.proto_flat.specs.declared.flat.FlatNode.{FlatNode}
use Rattle.proto_meaning.specs.Limits.{Met, follow, is_within, limited}
use Rattle.proto_meaning.specs.Flat.{Walk, ◌>>=◌, Item, Node, Stated, Proto, begin, comes, flat, header_of, item_step, node_step, proto_step, pure, statement_step, through}
use Rattle.proto_meaning.specs.Flat.{item as item_part, node as node_part, proto as proto_part, statement as stated}
use Rattle.proto_meaning.proofs.Trees.{item-field, item-declaration, item-route, item-proto, node-use, node-full, statement-node, statement-route, statement-proto}
use Rattle.proto_meaning.proofs.Induction.{OfDeclaration, OfGiven, Layers, every}
use Rattle.laws_documents.specs.Order.{AreBelow, AreFieldsBelow, IsOrdered}
use Rattle.laws_documents.proofs.Lists.{IfSome, all_append}
use Rattle.laws_documents.proofs.Limited.{limited_is, refused}
use Rattle.laws_documents.specs.PlainLaws.{FlatsAreOrdered}
use Rattle.laws_documents.proofs.OrderGood.{AreOrdered, Comes, Ends, IsBelow, IsDone, IsGoodWalk, count, done, ends_then, ends_through, raise_all, same}
use Rattle.laws_documents.proofs.OrderParts.{GoodGiven, GoodItem, GoodNode, GoodProto, GoodStated, declaration_good, field_good, proto_item_good, route_good}
use Rattle.laws_documents.proofs.OrderNodes.{full_good, node_stated, proto_stated, route_stated, use_good}
use Rattle.laws_documents.proofs.OrderProtos.{GoodDeclaration, begin_good, proto_good}

-- ---- the parts of a text

abbrev OfItem : BodyItem → Type 0
OfItem i = GoodItem (item_part i)

abbrev OfNode : NodeText → Type 0
OfNode n = GoodNode (node_part n)

abbrev OfStatement : Statement → Type 0
OfStatement s = GoodStated (stated s)

abbrev OfProto : ProtoText → Type 0
OfProto p = GoodProto (proto_part p)

nodes_good : (ns : List NodeText) → AllByRecursion OfNode ns → AllByRecursion GoodNode (map node_part ns)
nodes_good [] h = tt
nodes_good (n ∷ ns) h = (h.0, nodes_good ns h.1)

items_good : (is : List BodyItem) → AllByRecursion OfItem is → AllByRecursion GoodItem (map item_part is)
items_good [] h = tt
items_good (i ∷ is) h = (h.0, items_good is h.1)

statements_good : (ss : List Statement) → AllByRecursion OfStatement ss → AllByRecursion GoodStated (map stated ss)
statements_good [] h = tt
statements_good (s ∷ ss) h = (h.0, statements_good ss h.1)

given_good : (g : Given NodeText) → OfGiven OfNode g → GoodGiven (given_mapped node_part g)
given_good given.Nothing h = tt
given_good (given.Value value.Null) h = tt
given_good (given.Value (value.Truth truth)) h = tt
given_good (given.Value (value.String text)) h = tt
given_good (given.Value (value.Numbers numbers)) h = tt
given_good (given.Value (value.Node n)) h = (h, tt)
given_good (given.Value value.EmptyList) h = tt
given_good (given.Value (value.TruthList truths)) h = tt
given_good (given.Value (value.StringList texts)) h = tt
given_good (given.Value (value.NumberList numbers)) h = tt
given_good (given.Value (value.NodeList nodes)) h = nodes_good nodes h
given_good (given.Is name) h = tt

interface_good : (ds : List (Declaration NodeText)) → AllByRecursion (OfDeclaration OfNode) ds → AllByRecursion GoodDeclaration (map (interface_mapped node_part) ds)
interface_good [] h = tt
interface_good (d ∷ ds) h = (given_good d.given h.0, interface_good ds h.1)

layers : Layers OfItem OfNode OfStatement OfProto
layers = record {
  field = λ line name g h. subst GoodItem (sym (item-field line name g {h = given_mapped node_part g} refl)) (field_good line name (given_mapped node_part g) (given_good g h));
  declaration = λ d h. subst GoodItem (sym (item-declaration d {h = declaration_mapped node_part d} refl)) (declaration_good (declaration_mapped node_part d) (given_good d.given h));
  item_route = λ r. subst GoodItem (sym (item-route r)) (route_good r);
  item_proto = λ p h. subst GoodItem (sym (item-proto p {q = proto_part p} refl)) (proto_item_good (proto_part p) h);
  used = λ line name. subst GoodNode (sym (node-use line name)) (use_good line name);
  full = λ line name word is h. subst GoodNode (sym (node-full line name word is {ps = map item_part is} refl)) (full_good line name word (map item_part is) (items_good is h));
  node = λ n h. subst GoodStated (sym (statement-node n {p = node_part n} refl)) (node_stated (node_part n) h);
  route = λ r. subst GoodStated (sym (statement-route r)) (route_stated r);
  proto = λ p h. subst GoodStated (sym (statement-proto p {q = proto_part p} refl)) (proto_stated (proto_part p) h);
  prototype = λ p ds ss. subst GoodProto (sym (fold_out-ProtoText Item Node Stated Proto item_step node_step statement_step proto_step p))
      (proto_good _ (interface_good (out-ProtoText p).interface ds) (statements_good (out-ProtoText p).body ss));
}

-- ---- the document

root_does : (s : Stated) (roots : List ℕ) (w : Walk) → GoodStated s → IsGoodWalk w → AreBelow (count w) roots → Ends AreBelow (count w) ((s.1.does >>= λ ns. pure (roots ++ ns)) w)
root_does s roots w h g k =
    ends_then AreBelow AreBelow (λ ns. pure (roots ++ ns)) (count w) (s.1.does w) (h.does w g)
    (λ ns u i l p. done AreBelow (roots ++ ns) u i (all_append (IsBelow (count u)) roots ns (raise_all (count w) (count u) l roots k) p))

ordered_at : (first number place : ℕ) (xs : List FlatNode) → AreOrdered first xs → number ≡ first + place → IfSome (λ (x : FlatNode). AreFieldsBelow number x.fields) (slice_get xs place)
ordered_at first number place [] h e = tt
ordered_at first number zero (x ∷ xs) h e =
    let here : first ≡ number = omega (arith, e) in
    subst (λ n. AreFieldsBelow n x.fields) here h.0
ordered_at first number (suc place) (x ∷ xs) h e = ordered_at (suc first) number place xs h.1 (omega (arith, e))

abbrev flat_of : Document → List ℕ → Walk → Flat
flat_of d roots w =
    record {
      header = header_of d;
      nodes = w.put.nodes;
      roots = roots;
      helpers = w.put.helpers;
      routes = w.scope.routes w.scope.braces;
    }

is_ordered : (d : Document) (least : ℕ) (roots : List ℕ) (w : Walk) → IsDone AreBelow least roots w → IsOrdered (flat_of d roots w)
is_ordered d least roots w h =
    record {
      nodes = λ number node e. subst (IfSome (λ (x : FlatNode). AreFieldsBelow number x.fields)) e (ordered_at 0 number number w.put.nodes h.good.put.nodes (omega arith));
      roots = h.told;
      helpers = h.good.put.helpers;
      routes = h.good.scope.routes (count w) (same (count w)) w.scope.braces h.good.scope.braces;
    }

ordered_from : (d : Document) (f : Flat) (least : ℕ) (met : List Met) (c : Result (List ℕ × Walk) ExpandFault) → Comes AreBelow least c → limited (follow met c (λ p. comes (Ok (flat_of d p.0 p.1)))) ≡ Ok f → IsOrdered f
ordered_from d f least met (Ok p) h e =
    subst IsOrdered (limited_is (is_within (met ++ [])) (nat_lt 65536 (length (flat_of d p.0 p.1).routes)) (flat_of d p.0 p.1) f e) (is_ordered d least p.0 p.1 h)
ordered_from d f least met (Err x) h e = absurd (refused (is_within met) x f e)

pub flats_are_ordered : FlatsAreOrdered
unfolding flat
flats_are_ordered d f e =
    let start = begin [] (record { nodes = []; helpers = [] }) in
    let o = through (λ (s : Stated) (roots : List ℕ). s.1.does >>= λ ns. pure (roots ++ ns)) (map stated d.statements) [] start in
    ordered_from d f 0 o.met o.comes
    (ends_through GoodStated AreBelow (λ (s : Stated) (roots : List ℕ). s.1.does >>= λ ns. pure (roots ++ ns)) root_does (map stated d.statements) [] start
    (statements_good d.statements (every OfItem OfNode OfStatement OfProto layers d.statements)) (begin_good [] (record { nodes = []; helpers = [] }) tt (record { nodes = tt; helpers = tt })) tt) e
