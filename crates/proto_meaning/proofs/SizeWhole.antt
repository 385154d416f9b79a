-- The laws of statements, by all parts of a text.
use Rattle.std.proofs.Common.{ℕ, List, [], ◌∷◌, Result, Ok, Err, map, refl, sym, ◌∙◌, subst}
use Rattle.std.specs.List.{AllByRecursion}
use Rattle.std.proofs.lemmas.List.{append-nil}
use Rattle.classic_tree.specs.declared.tree.BodyItem.{BodyItem}
use Rattle.classic_tree.specs.declared.tree.Declaration.{Declaration}
use Rattle.classic_tree.specs.declared.tree.Given.{Given}
use Rattle.classic_tree.specs.declared.tree.Given.TheVariants as given
use Rattle.classic_tree.specs.declared.tree.NodeText.{NodeText}
use Rattle.classic_tree.specs.declared.tree.ProtoText.{ProtoText, fold_out-ProtoText, out-ProtoText}
use Rattle.classic_tree.specs.declared.tree.RawValue.TheVariants as value
use Rattle.classic_tree.specs.declared.tree.Statement.{Statement}
use Rattle.classic_tree.specs.declared.tree.Statement.TheVariants as statements
use Rattle.classic_tree.proofs.Mapped.{given_mapped, declaration_mapped, interface_mapped}
use Rattle.proto_flat.specs.declared.fault.ExpandFault.{ExpandFault}
use Rattle.proto_meaning.specs.Limits.{Met, follow}
use Rattle.proto_meaning.specs.Flat.{Walk, pure, Item, Node, Stated, Proto, item_step, node_step, statement_step, proto_step, statement}
use Rattle.proto_meaning.specs.Flat.{item as item_part, node as node_part, proto as proto_part}
use Rattle.proto_meaning.proofs.Trees.{item-field, item-declaration, item-route, item-proto, node-use, node-full, statement-node, statement-route, statement-proto}
use Rattle.proto_meaning.proofs.Induction.{Layers, OfDeclaration, OfGiven, every, every_statement}
use Rattle.proto_meaning.specs.SizeLaws.{DeclaredPrototypesAreSized, PrototypesAreSized, StatementsComeAlike}
use Rattle.proto_meaning.proofs.SizeWalks.{Any, AsMany, GoAlike, LastSized, SeenSized, come_alike}
use Rattle.proto_meaning.proofs.SizeParts.{GivenSized, ItemSized, NodeSized, ProtoSized, StatedSized, declaration_sized, field_sized, proto_item_sized, route_sized}
use Rattle.proto_meaning.proofs.SizeNodes.{full_sized, node_stated, proto_stated, route_stated, use_sized}
use Rattle.proto_meaning.proofs.SizeProtos.{DeclarationSized, proto_sized}

abbrev OfItem : BodyItem → Type 0
OfItem i = ItemSized (item_part i)

abbrev OfNode : NodeText → Type 0
OfNode n = NodeSized (node_part n)

abbrev OfStatement : Statement → Type 0
OfStatement s = StatedSized (statement s)

abbrev OfProto : ProtoText → Type 0
OfProto p = ProtoSized (proto_part p)

nodes_mapped : (ns : List NodeText) → AllByRecursion OfNode ns → AllByRecursion NodeSized (map node_part ns)
nodes_mapped [] h = tt
nodes_mapped (n ∷ ns) h = (h.0, nodes_mapped ns h.1)

items_mapped : (is : List BodyItem) → AllByRecursion OfItem is → AllByRecursion ItemSized (map item_part is)
items_mapped [] h = tt
items_mapped (i ∷ is) h = (h.0, items_mapped is h.1)

pub stated_mapped : (ss : List Statement) → AllByRecursion OfStatement ss → AllByRecursion StatedSized (map statement ss)
stated_mapped [] h = tt
stated_mapped (s ∷ ss) h = (h.0, stated_mapped ss h.1)

in_given : (g : Given NodeText) → OfGiven OfNode g → GivenSized (given_mapped node_part g)
in_given given.Nothing h = tt
in_given (given.Value value.Null) h = tt
in_given (given.Value (value.Truth truth)) h = tt
in_given (given.Value (value.String text)) h = tt
in_given (given.Value (value.Numbers numbers)) h = tt
in_given (given.Value (value.Node n)) h = (h, tt)
in_given (given.Value value.EmptyList) h = tt
in_given (given.Value (value.TruthList truths)) h = tt
in_given (given.Value (value.StringList texts)) h = tt
in_given (given.Value (value.NumberList numbers)) h = tt
in_given (given.Value (value.NodeList nodes)) h = nodes_mapped nodes h
in_given (given.Is name) h = tt

interface_sized : (ds : List (Declaration NodeText)) → AllByRecursion (OfDeclaration OfNode) ds → AllByRecursion DeclarationSized (map (interface_mapped node_part) ds)
interface_sized [] h = tt
interface_sized (d ∷ ds) h = (in_given d.given h.0, interface_sized ds h.1)

layers : Layers OfItem OfNode OfStatement OfProto
layers = record {
  field = λ line name g h. subst ItemSized (sym (item-field line name g {h = given_mapped node_part g} refl)) (field_sized line name (given_mapped node_part g) (in_given g h));
  declaration = λ d h. subst ItemSized (sym (item-declaration d {h = declaration_mapped node_part d} refl)) (declaration_sized (declaration_mapped node_part d) (in_given d.given h));
  item_route = λ r. subst ItemSized (sym (item-route r)) (route_sized r);
  item_proto = λ p h. subst ItemSized (sym (item-proto p {q = proto_part p} refl)) (proto_item_sized (proto_part p) h);
  used = λ line name. subst NodeSized (sym (node-use line name)) (use_sized line name);
  full = λ line name word is h. subst NodeSized (sym (node-full line name word is {ps = map item_part is} refl)) (full_sized line name word (map item_part is) (items_mapped is h));
  node = λ n h. subst StatedSized (sym (statement-node n {p = node_part n} refl)) (node_stated (node_part n) h);
  route = λ r. subst StatedSized (sym (statement-route r)) (route_stated r);
  proto = λ p h. subst StatedSized (sym (statement-proto p {q = proto_part p} refl)) (proto_stated (proto_part p) h);
  prototype = λ p ds ss. subst ProtoSized (sym (fold_out-ProtoText Item Node Stated Proto item_step node_step statement_step proto_step p))
      (proto_sized _ (interface_sized (out-ProtoText p).interface ds) (stated_mapped (out-ProtoText p).body ss));
}

pub all_sized : (ss : List Statement) → AllByRecursion StatedSized (map statement ss)
all_sized ss = stated_mapped ss (every OfItem OfNode OfStatement OfProto layers ss)

one_sized : (s : Statement) → StatedSized (statement s)
one_sized s = every_statement OfItem OfNode OfStatement OfProto layers s

pub prototypes_are_sized : PrototypesAreSized
prototypes_are_sized text s t h e = subst SeenSized e ((one_sized text).sees s h)

-- ---- declarations, which are sized as they are by the parts inside

node_goes : (m n : List Met) (c d : Result (ℕ × Walk) ExpandFault) → GoAlike AsMany (follow m c (λ p. pure (p.0 ∷ []) p.1)) (follow n d (λ p. pure (p.0 ∷ []) p.1)) → GoAlike Any (record { met = m; comes = c }) (record { met = n; comes = d })
node_goes m n (Ok p) (Ok q) h = record { met = sym (append-nil n) ∙ h.met ∙ append-nil m; goes = (tt, h.goes.1) }
node_goes m n (Err e) (Err f) h = record { met = h.met; goes = h.goes }
node_goes m n (Ok p) (Err f) h = absurd h.goes
node_goes m n (Err e) (Ok q) h = absurd h.goes

every_node : (n : NodeText) → NodeSized (node_part n)
unfolding statement_step
every_node n =
    let stated = subst StatedSized (statement-node n {p = node_part n} refl) (one_sized (statements.Node n)) in
    record { sees = stated.sees; does = λ w v k. node_goes ((node_part n).does w).met ((node_part n).does v).met ((node_part n).does w).comes ((node_part n).does v).comes (stated.does w v k) }

every_node_of : (ns : List NodeText) → AllByRecursion NodeSized (map node_part ns)
every_node_of [] = tt
every_node_of (n ∷ ns) = (every_node n, every_node_of ns)

every_given : (g : Given NodeText) → GivenSized (given_mapped node_part g)
every_given given.Nothing = tt
every_given (given.Value value.Null) = tt
every_given (given.Value (value.Truth truth)) = tt
every_given (given.Value (value.String text)) = tt
every_given (given.Value (value.Numbers numbers)) = tt
every_given (given.Value (value.Node n)) = (every_node n, tt)
every_given (given.Value value.EmptyList) = tt
every_given (given.Value (value.TruthList truths)) = tt
every_given (given.Value (value.StringList texts)) = tt
every_given (given.Value (value.NumberList numbers)) = tt
every_given (given.Value (value.NodeList ns)) = every_node_of ns
every_given (given.Is name) = tt

every_interface : (ds : List (Declaration NodeText)) → AllByRecursion DeclarationSized (map (interface_mapped node_part) ds)
every_interface [] = tt
every_interface (d ∷ ds) = (every_given d.given, every_interface ds)

every_proto : (p : ProtoText) → ProtoSized (proto_part p)
every_proto p = subst ProtoSized (sym (fold_out-ProtoText Item Node Stated Proto item_step node_step statement_step proto_step p))
    (proto_sized _ (every_interface (out-ProtoText p).interface) (all_sized (out-ProtoText p).body))

pub declared_prototypes_are_sized : DeclaredPrototypesAreSized
declared_prototypes_are_sized text s p h e = subst (LastSized s) e ((every_proto text).declares s h) p refl

pub statements_come_alike : StatementsComeAlike
statements_come_alike text w v h = come_alike AsMany ((statement text).1.does w) ((statement text).1.does v) ((one_sized text).does w v h)
