-- The parts of a tree give nodes what they may hold, by what is asked of the text itself.
use Rattle.std.proofs.Common.{◌≡◌, ℕ, List, [], ◌∷◌, length, Option, map, refl, sym, ◌∙◌, subst}
use Rattle.std.specs.List.{AllByRecursion}
use Rattle.std.proofs.lemmas.List.{length-map}
use Rattle.classic_tree.specs.declared.tree.BodyItem.{BodyItem}
use Rattle.classic_tree.specs.declared.tree.BodyItem.TheVariants as item_text
use Rattle.classic_tree.specs.declared.tree.Declaration.{Declaration}
use Rattle.classic_tree.specs.declared.tree.Given.{Given}
use Rattle.classic_tree.specs.declared.tree.Given.TheVariants as given
use Rattle.classic_tree.specs.declared.tree.NodeText.{NodeText}
use Rattle.classic_tree.specs.declared.tree.NodeText.TheVariants as node_text
use Rattle.classic_tree.specs.declared.tree.ProtoText.{ProtoText, fold_out-ProtoText, out-ProtoText}
use Rattle.classic_tree.specs.declared.tree.RawValue.{RawValue}
use Rattle.classic_tree.specs.declared.tree.RawValue.TheVariants as value
use Rattle.classic_tree.specs.declared.tree.RouteText.{RouteText}
use Rattle.classic_tree.specs.declared.tree.Statement.{Statement}
use Rattle.classic_tree.specs.declared.tree.Statement.TheVariants as statement_text
use Rattle.classic_tree.proofs.Mapped.{given_mapped, declaration_mapped, interface_mapped}
use Rattle.proto_meaning.specs.Names.{Name}
use Rattle.proto_meaning.specs.Flat.{Item, Node, Stated, Proto, field, item_step, node_step, proto_step, statement_step}
use Rattle.proto_meaning.specs.Flat.{item as item_part, node as node_part, proto as proto_part, statement as stated}
use Rattle.proto_meaning.proofs.Trees.{item-field, item-declaration, item-route, item-proto, node-use, node-full, statement-node, statement-route, statement-proto}
use Rattle.proto_meaning.proofs.Induction.{OfGiven}
use Rattle.laws_documents.proofs.HeldGood.{Asked}
use Rattle.laws_documents.proofs.HeldParts.{GoodGiven, GoodItem, GoodNode, GoodProto, GoodStated, declaration_good, field_good, proto_item_good, route_good}
use Rattle.laws_documents.proofs.HeldNodes.{full_good, node_stated, proto_stated, route_stated, use_good}
use Rattle.laws_documents.proofs.HeldProtos.{GoodDeclaration, proto_good}

module _ (asked : Asked) where
  abbrev pub ItemHolds : BodyItem → Type 0
  ItemHolds i = GoodItem asked (item_part i)

  abbrev pub NodeHolds : NodeText → Type 0
  NodeHolds n = GoodNode asked (node_part n)

  abbrev pub StatementHolds : Statement → Type 0
  StatementHolds s = GoodStated asked (stated s)

  abbrev pub ProtoHolds : ProtoText → Type 0
  ProtoHolds p = GoodProto asked (proto_part p)

  -- the value is as asked, whatever numbers its nodes have
  abbrev pub IsAskedText : RawValue NodeText → Type 0
  IsAskedText value.Null = asked.value value.Null
  IsAskedText (value.Truth truth) = asked.value (value.Truth truth)
  IsAskedText (value.String text) = asked.value (value.String text)
  IsAskedText (value.Numbers numbers) = asked.value (value.Numbers numbers)
  IsAskedText (value.Node node) = (n : ℕ) → asked.value (value.Node n)
  IsAskedText value.EmptyList = asked.value value.EmptyList
  IsAskedText (value.TruthList truths) = asked.value (value.TruthList truths)
  IsAskedText (value.StringList texts) = asked.value (value.StringList texts)
  IsAskedText (value.NumberList numbers) = asked.value (value.NumberList numbers)
  IsAskedText (value.NodeList nodes) = (ns : List ℕ) → length ns ≡ length nodes → asked.value (value.NodeList ns)

  abbrev pub IfAskedText : Given NodeText → Type 0
  IfAskedText (given.Value v) = IsAskedText v
  IfAskedText _ = Unit {0}

  -- what a field is given, or an interface has as its default
  pub record GivenHolds (g : Given NodeText) : Type 0 where
    pub nodes : OfGiven NodeHolds g
    pub value : IfAskedText g

  nodes_held : (ns : List NodeText) → AllByRecursion NodeHolds ns → AllByRecursion (GoodNode asked) (map node_part ns)
  nodes_held [] h = tt
  nodes_held (n ∷ ns) h = (h.0, nodes_held ns h.1)

  given_held : (g : Given NodeText) → GivenHolds g → GoodGiven asked (given_mapped node_part g)
  given_held given.Nothing h = record { nodes = tt; value = tt }
  given_held (given.Is name) h = record { nodes = tt; value = tt }
  given_held (given.Value value.Null) h = record { nodes = tt; value = h.value }
  given_held (given.Value (value.Truth truth)) h = record { nodes = tt; value = h.value }
  given_held (given.Value (value.String text)) h = record { nodes = tt; value = h.value }
  given_held (given.Value (value.Numbers numbers)) h = record { nodes = tt; value = h.value }
  given_held (given.Value (value.Node n)) h = record { nodes = (h.nodes, tt); value = h.value }
  given_held (given.Value value.EmptyList) h = record { nodes = tt; value = h.value }
  given_held (given.Value (value.TruthList truths)) h = record { nodes = tt; value = h.value }
  given_held (given.Value (value.StringList texts)) h = record { nodes = tt; value = h.value }
  given_held (given.Value (value.NumberList numbers)) h = record { nodes = tt; value = h.value }
  given_held (given.Value (value.NodeList ns)) h = record { nodes = nodes_held ns h.nodes; value = λ ks e. h.value ks (e ∙ length-map ns node_part) }

  items_held : (is : List BodyItem) → AllByRecursion ItemHolds is → AllByRecursion (GoodItem asked) (map item_part is)
  items_held [] h = tt
  items_held (i ∷ is) h = (h.0, items_held is h.1)

  pub statements_held : (ss : List Statement) → AllByRecursion StatementHolds ss → AllByRecursion (GoodStated asked) (map stated ss)
  statements_held [] h = tt
  statements_held (s ∷ ss) h = (h.0, statements_held ss h.1)

  abbrev pub DefaultHolds : Declaration NodeText → Type 0
  DefaultHolds d = GivenHolds d.given

  interface_held : (ds : List (Declaration NodeText)) → AllByRecursion DefaultHolds ds → AllByRecursion (GoodDeclaration asked) (map (interface_mapped node_part) ds)
  interface_held [] h = tt
  interface_held (d ∷ ds) h = (given_held d.given h.0, interface_held ds h.1)

  -- ---- each part

  pub field_holds : (line : ℕ) (name : Name) (g : Given NodeText) → GivenHolds g → ItemHolds (item_text.Field line name g)
  field_holds line name g h = subst (GoodItem asked) (sym (item-field line name g {h = given_mapped node_part g} refl)) (field_good asked line name (given_mapped node_part g) (given_held g h))

  pub declaration_holds : (d : Declaration NodeText) → asked.field (field d) → GivenHolds d.given → ItemHolds (item_text.Declaration d)
  declaration_holds d k h =
      subst (GoodItem asked) (sym (item-declaration d {h = declaration_mapped node_part d} refl)) (declaration_good asked (declaration_mapped node_part d) k (given_held d.given h))

  pub route_item_holds : (route : RouteText) → ItemHolds (item_text.Route route)
  route_item_holds route = subst (GoodItem asked) (sym (item-route route)) (route_good asked route)

  pub proto_item_holds : (p : ProtoText) → ProtoHolds p → ItemHolds (item_text.Proto p)
  proto_item_holds p h = subst (GoodItem asked) (sym (item-proto p {q = proto_part p} refl)) (proto_item_good asked (proto_part p) h)

  pub use_holds : (line : ℕ) (name : Name) → NodeHolds (node_text.Use line name)
  use_holds line name = subst (GoodNode asked) (sym (node-use line name)) (use_good asked line name)

  pub full_holds : (line : ℕ) (name : Option Name) (word : Name) (is : List BodyItem) → asked.name name → AllByRecursion ItemHolds is → NodeHolds (node_text.Full line name word is)
  full_holds line name word is k h =
      subst (GoodNode asked) (sym (node-full line name word is {ps = map item_part is} refl)) (full_good asked line name word (map item_part is) k (items_held is h))

  pub node_holds : (n : NodeText) → NodeHolds n → StatementHolds (statement_text.Node n)
  node_holds n h = subst (GoodStated asked) (sym (statement-node n {p = node_part n} refl)) (node_stated asked (node_part n) h)

  pub route_holds : (route : RouteText) → StatementHolds (statement_text.Route route)
  route_holds route = subst (GoodStated asked) (sym (statement-route route)) (route_stated asked route)

  pub proto_holds : (p : ProtoText) → ProtoHolds p → StatementHolds (statement_text.Proto p)
  proto_holds p h = subst (GoodStated asked) (sym (statement-proto p {q = proto_part p} refl)) (proto_stated asked (proto_part p) h)

  pub prototype_holds : (p : ProtoText) → AllByRecursion DefaultHolds (out-ProtoText p).interface → AllByRecursion StatementHolds (out-ProtoText p).body → ProtoHolds p
  prototype_holds p ds ss =
      subst (GoodProto asked) (sym (fold_out-ProtoText Item Node Stated Proto item_step node_step statement_step proto_step p))
      (proto_good asked _ (interface_held (out-ProtoText p).interface ds) (statements_held (out-ProtoText p).body ss))
