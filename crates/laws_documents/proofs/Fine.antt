-- What the texts and lists of a tree keep, the nodes of its flat form do.
use Rattle.std.proofs.Common.{◌≡◌, ℕ, List, Option, Ok}
use Rattle.std.specs.List.{AllByRecursion}
use Rattle.classic_tree.specs.declared.tree.BodyItem.{BodyItem}
use Rattle.classic_tree.specs.declared.tree.BodyItem.TheVariants as item
use Rattle.classic_tree.specs.declared.tree.Declaration.{Declaration}
use Rattle.classic_tree.specs.declared.tree.Document.{Document}
use Rattle.classic_tree.specs.declared.tree.Given.{Given}
use Rattle.classic_tree.specs.declared.tree.Given.TheVariants as given
use Rattle.classic_tree.specs.declared.tree.NodeText.{NodeText}
use Rattle.classic_tree.specs.declared.tree.NodeText.TheVariants as node
use Rattle.classic_tree.specs.declared.tree.ProtoText.{ProtoText, out-ProtoText}
use Rattle.classic_tree.specs.declared.tree.RawValue.{RawValue}
use Rattle.classic_tree.specs.declared.tree.RawValue.TheVariants as value
use Rattle.classic_tree.specs.declared.tree.RouteText.{RouteText}
use Rattle.classic_tree.specs.declared.tree.Statement.{Statement}
use Rattle.classic_tree.specs.declared.tree.Statement.TheVariants as statement
use Rattle.proto_flat.specs.declared.flat.Flat.{Flat}
use Rattle.proto_flat.specs.declared.flat.FlatField.{FlatField}
use Rattle.proto_flat.specs.declared.flat.FlatNode.{FlatNode}
use Rattle.proto_meaning.specs.Flat.{flat}
use Rattle.proto_meaning.proofs.Induction.{OfValue}
use Rattle.laws_documents.proofs.Lists.{all_weaker}
use Rattle.laws_documents.proofs.HeldGood.{Asked, IsHeld}
use Rattle.laws_documents.proofs.HeldTexts.{DefaultHolds, GivenHolds, ItemHolds, NodeHolds, ProtoHolds, StatementHolds, declaration_holds, field_holds, full_holds, node_holds, proto_holds, proto_item_holds, prototype_holds, route_holds, route_item_holds, statements_held, use_holds}
use Rattle.laws_documents.proofs.HeldWhole.{flat_is_held}
use Rattle.laws_documents.specs.Lengths.{HasParts}

module _ (Text : List ℕ → Type 0) (Count : ℕ → Type 0) where
  -- nothing is asked of names
  abbrev pub asked : Asked
  asked = record {
    name = λ name. Unit {0};
    field = λ f. Unit {0};
    value = λ v. HasParts Text Count v;
  }

  abbrev pub NodeKeeps : NodeText → Type 0
  NodeKeeps n = NodeHolds asked n

  abbrev pub ItemKeeps : BodyItem → Type 0
  ItemKeeps i = ItemHolds asked i

  abbrev pub StatementKeeps : Statement → Type 0
  StatementKeeps s = StatementHolds asked s

  abbrev pub ProtoKeeps : ProtoText → Type 0
  ProtoKeeps p = ProtoHolds asked p

  -- a value with all that is inside
  abbrev pub IsFine : RawValue NodeText → Type 0
  IsFine v = HasParts Text Count v × OfValue NodeKeeps v

  abbrev pub IsFineGiven : Given NodeText → Type 0
  IsFineGiven given.Nothing = Unit {0}
  IsFineGiven (given.Value v) = IsFine v
  IsFineGiven (given.Is name) = Unit {0}

  abbrev pub IsFineDeclaration : Declaration NodeText → Type 0
  IsFineDeclaration d = IsFineGiven d.given

  given_keeps : (g : Given NodeText) → IsFineGiven g → GivenHolds asked g
  given_keeps given.Nothing h = record { nodes = tt; value = tt }
  given_keeps (given.Is name) h = record { nodes = tt; value = tt }
  given_keeps (given.Value value.Null) h = record { nodes = tt; value = tt }
  given_keeps (given.Value (value.Truth truth)) h = record { nodes = tt; value = tt }
  given_keeps (given.Value (value.String text)) h = record { nodes = tt; value = h.0 }
  given_keeps (given.Value (value.Numbers numbers)) h = record { nodes = tt; value = h.0 }
  given_keeps (given.Value (value.Node n)) h = record { nodes = h.1; value = λ k. tt }
  given_keeps (given.Value value.EmptyList) h = record { nodes = tt; value = tt }
  given_keeps (given.Value (value.TruthList truths)) h = record { nodes = tt; value = h.0 }
  given_keeps (given.Value (value.StringList texts)) h = record { nodes = tt; value = h.0 }
  given_keeps (given.Value (value.NumberList numbers)) h = record { nodes = tt; value = h.0 }
  given_keeps (given.Value (value.NodeList nodes)) h = record { nodes = h.1; value = λ ks e. tt }

  pub field_keeps : (line : ℕ) (name : List ℕ) (x : Given NodeText) → IsFineGiven x → ItemKeeps (item.Field line name x)
  field_keeps line name x h = field_holds asked line name x (given_keeps x h)

  pub declaration_keeps : (d : Declaration NodeText) → IsFineDeclaration d → ItemKeeps (item.Declaration d)
  declaration_keeps d h = declaration_holds asked d tt (given_keeps d.given h)

  pub route_keeps : (route : RouteText) → ItemKeeps (item.Route route)
  route_keeps route = route_item_holds asked route

  pub inner_proto_keeps : (p : ProtoText) → ProtoKeeps p → ItemKeeps (item.Proto p)
  inner_proto_keeps p h = proto_item_holds asked p h

  pub used_keeps : (line : ℕ) (name : List ℕ) → NodeKeeps (node.Use line name)
  used_keeps line name = use_holds asked line name

  pub full_keeps : (line : ℕ) (name : Option (List ℕ)) (word : List ℕ) (items : List BodyItem) → AllByRecursion ItemKeeps items → NodeKeeps (node.Full line name word items)
  full_keeps line name word items h = full_holds asked line name word items tt h

  pub node_statement_keeps : (n : NodeText) → NodeKeeps n → StatementKeeps (statement.Node n)
  node_statement_keeps n h = node_holds asked n h

  pub route_statement_keeps : (route : RouteText) → StatementKeeps (statement.Route route)
  route_statement_keeps route = route_holds asked route

  pub proto_statement_keeps : (p : ProtoText) → ProtoKeeps p → StatementKeeps (statement.Proto p)
  proto_statement_keeps p h = proto_holds asked p h

  pub proto_keeps : (p : ProtoText) → AllByRecursion IsFineDeclaration (out-ProtoText p).interface → AllByRecursion StatementKeeps (out-ProtoText p).body → ProtoKeeps p
  proto_keeps p ds ss = prototype_holds asked p (all_weaker IsFineDeclaration (DefaultHolds asked) (λ d h. given_keeps d.given h) (out-ProtoText p).interface ds) ss

  abbrev pub HasFineFields : FlatNode → Type 0
  HasFineFields n = AllByRecursion (λ (f : FlatField). HasParts Text Count f.value) n.fields

  pub flat_good : (d : Document) (f : Flat) → AllByRecursion StatementKeeps d.statements → flat d ≡ Ok f → AllByRecursion HasFineFields f.nodes
  flat_good d f h e = all_weaker (IsHeld asked) HasFineFields (λ n k. k.values) f.nodes (flat_is_held asked d f (statements_held asked d.statements h) e).nodes
