-- The nodes of a flat form hold what is written in the text, and there are few of them.
use Rattle.std.proofs.Common.{◌≡◌, ◌⊎◌, inl, inr, ℕ, suc, Bool, true, false, List, [], ◌∷◌, length, Option, Ok, map, refl, ap, sym, ◌∙◌, subst, arith}
use Rattle.std.specs.List.{AllByRecursion, Contains}
use Rattle.std.proofs.lemmas.List.{length-map}
use denote.Enum.Bare.{sameb, same_true}
use Rattle.x3d_values.specs.contracts.node_type.NodeType as node_types
use Rattle.x3d_values.specs.declared.node_type.NodeType.{NodeType}
use Rattle.x3d_values.specs.declared.node_type.NodeType.TheVariants.{Script}
use Rattle.classic_tree.specs.declared.tree.BodyItem.{BodyItem}
use Rattle.classic_tree.specs.declared.tree.BodyItem.TheVariants as item_text
use Rattle.classic_tree.specs.declared.tree.Declaration.{Declaration}
use Rattle.classic_tree.specs.declared.tree.Document.{Document}
use Rattle.classic_tree.specs.declared.tree.Given.{Given}
use Rattle.classic_tree.specs.declared.tree.Given.TheVariants as given
use Rattle.classic_tree.specs.declared.tree.NodeText.{NodeText}
use Rattle.classic_tree.specs.declared.tree.NodeText.TheVariants as node_text
use Rattle.classic_tree.specs.declared.tree.ProtoText.{ProtoText, out-ProtoText}
use Rattle.classic_tree.specs.declared.tree.RawValue.TheVariants as value
use Rattle.classic_tree.specs.declared.tree.Statement.{Statement}
use Rattle.classic_tree.proofs.Mapped.{given_mapped}
use Rattle.proto_flat.specs.declared.flat.Flat.{Flat}
use Rattle.proto_flat.specs.declared.flat.FlatNode.{FlatNode}
use Rattle.proto_meaning.specs.Names.{Name, Field}
use Rattle.proto_meaning.specs.Flat.{field, flat}
use Rattle.proto_meaning.proofs.Induction.{OfDeclaration, OfGiven, Layers, every}
use Rattle.laws_documents.proofs.Lists.{all_split, all_weaker}
use Rattle.laws_documents.specs.Shapes.{blank, no_node}
use Rattle.laws_documents.specs.PlainLaws.{FlatsAreLimited, FlatsAreWritten, HasNamesApart, NamesAreApart}
use Rattle.laws_documents.specs.Written.{IsWritten, Written, all_of, and_also, in_given, in_item, in_node, in_proto, in_statement, itself, written}
use Rattle.laws_documents.proofs.HeldGood.{Asked, IsHeld}
use Rattle.laws_documents.proofs.HeldTexts.{DefaultHolds, GivenHolds, ItemHolds, NodeHolds, ProtoHolds, StatementHolds, declaration_holds, field_holds, full_holds, node_holds, proto_holds, proto_item_holds, prototype_holds, route_holds, route_item_holds, statements_held, use_holds}
use Rattle.laws_documents.proofs.HeldWhole.{FlatHolds, flat_is_held}
use Rattle.laws_documents.proofs.Numbers.{Owns, OwnsBy}
use Rattle.laws_documents.proofs.WrittenTexts as texts
use Rattle.laws_documents.proofs.WrittenTexts.{in_interface}

-- ---- lists of units

units_same : {A B : Type 0} (xs : List A) (ys : List B) → length xs ≡ length ys → map no_node xs ≡ map no_node ys
units_same [] [] e = refl
units_same [] (y ∷ ys) e = absurd (none (length ys) e) where
  none : (n : ℕ) → 0 ≡ suc n → ⊥
  none n k = absurd omega (arith, k)
units_same (x ∷ xs) [] e = absurd (none (length xs) e) where
  none : (n : ℕ) → suc n ≡ 0 → ⊥
  none n k = absurd omega (arith, k)
units_same (x ∷ xs) (y ∷ ys) e =
    let rest : length xs ≡ length ys = omega (arith, e) in
    ap (λ (us : List (Unit {0})). tt ∷ us) (units_same xs ys rest)

contains_more : {X : Type 0} (x : X) (xs : List X) (y : X) → Contains xs y → Contains (x ∷ xs) y
contains_more x xs y h = (suc h.0, omega (arith, h.1), h.2)

all_own : {X : Type 0} (xs : List X) → AllByRecursion (Contains xs) xs
all_own [] = tt
all_own (x ∷ xs) = ((0, omega arith, refl), all_weaker (Contains xs) (Contains (x ∷ xs)) (contains_more x xs) xs (all_own xs))

module _ (w : Written) where
  abbrev asked : Asked
  asked = record {
    name = Contains w.names;
    field = Contains w.fields;
    value = λ v. Contains w.values (blank v);
  }

  -- ---- parts of the text

  pub record Within (a : Written) : Type 0 where
    pub names : AllByRecursion (Contains w.names) a.names
    pub fields : AllByRecursion (Contains w.fields) a.fields
    pub values : AllByRecursion (Contains w.values) a.values

  first_of : (a b : Written) → Within (and_also a b) → Within a
  first_of a b h = record {
    names = (all_split (Contains w.names) a.names b.names h.names).0;
    fields = (all_split (Contains w.fields) a.fields b.fields h.fields).0;
    values = (all_split (Contains w.values) a.values b.values h.values).0;
  }

  second_of : (a b : Written) → Within (and_also a b) → Within b
  second_of a b h = record {
    names = (all_split (Contains w.names) a.names b.names h.names).1;
    fields = (all_split (Contains w.fields) a.fields b.fields h.fields).1;
    values = (all_split (Contains w.values) a.values b.values h.values).1;
  }

  abbrev OfItem : BodyItem → Type 0
  OfItem i = Within (in_item i) → ItemHolds asked i

  abbrev OfNode : NodeText → Type 0
  OfNode n = Within (in_node n) → NodeHolds asked n

  abbrev OfStatement : Statement → Type 0
  OfStatement s = Within (in_statement s) → StatementHolds asked s

  abbrev OfProto : ProtoText → Type 0
  OfProto p = Within (in_proto p) → ProtoHolds asked p

  -- parts in turn
  each_holds : {X : Type 0} (Holds : X → Type 0) (of : X → Written) (xs : List X) → AllByRecursion (λ (x : X). Within (of x) → Holds x) xs → Within (all_of of xs) → AllByRecursion Holds xs
  each_holds Holds of [] h k = tt
  each_holds Holds of (x ∷ xs) h k = (h.0 (first_of (of x) (all_of of xs) k), each_holds Holds of xs h.1 (second_of (of x) (all_of of xs) k))

  nodes_hold : (ns : List NodeText) → AllByRecursion OfNode ns → Within (all_of itself (map in_node ns)) → AllByRecursion (NodeHolds asked) ns
  nodes_hold [] h k = tt
  nodes_hold (n ∷ ns) h k =
      let rest = all_of itself (map in_node ns) in
      (h.0 (first_of (in_node n) rest k), nodes_hold ns h.1 (second_of (in_node n) rest k))

  given_holds : (g : Given NodeText) → OfGiven OfNode g → Within (in_given (given_mapped in_node g)) → GivenHolds asked g
  given_holds given.Nothing h k = record { nodes = tt; value = tt }
  given_holds (given.Is name) h k = record { nodes = tt; value = tt }
  given_holds (given.Value value.Null) h k = record { nodes = tt; value = k.values.0 }
  given_holds (given.Value (value.Truth truth)) h k = record { nodes = tt; value = k.values.0 }
  given_holds (given.Value (value.String text)) h k = record { nodes = tt; value = k.values.0 }
  given_holds (given.Value (value.Numbers numbers)) h k = record { nodes = tt; value = k.values.0 }
  given_holds (given.Value (value.Node n)) h k = record {
    nodes = h (record { names = k.names; fields = k.fields; values = k.values.1 });
    value = λ number. k.values.0;
  }
  given_holds (given.Value value.EmptyList) h k = record { nodes = tt; value = k.values.0 }
  given_holds (given.Value (value.TruthList truths)) h k = record { nodes = tt; value = k.values.0 }
  given_holds (given.Value (value.StringList texts)) h k = record { nodes = tt; value = k.values.0 }
  given_holds (given.Value (value.NumberList numbers)) h k = record { nodes = tt; value = k.values.0 }
  given_holds (given.Value (value.NodeList ns)) h k = record {
    nodes = nodes_hold ns h (record { names = k.names; fields = k.fields; values = k.values.1 });
    value = λ numbers e. subst (λ (us : List (Unit {0})). Contains w.values (value.NodeList us)) (units_same (map in_node ns) numbers (length-map ns in_node ∙ sym e)) k.values.0;
  }

  interface_holds : (ds : List (Declaration NodeText)) → AllByRecursion (OfDeclaration OfNode) ds → Within (all_of in_interface ds) → AllByRecursion (DefaultHolds asked) ds
  interface_holds [] h k = tt
  interface_holds (d ∷ ds) h k = (given_holds d.given h.0 (first_of (in_interface d) (all_of in_interface ds) k), interface_holds ds h.1 (second_of (in_interface d) (all_of in_interface ds) k))

  declaration_layer : (d : Declaration NodeText) → OfGiven OfNode d.given → OfItem (item_text.Declaration d)
  declaration_layer d h k =
      let all = subst Within (texts.in_declaration d) k in
      let inner = in_given (given_mapped in_node d.given) in
      let own : Written = record { names = []; fields = field d ∷ []; values = [] } in
      declaration_holds asked d (first_of own inner all).fields.0 (given_holds d.given h (second_of own inner all))

  full_layer : (line : ℕ) (name : Option Name) (word : Name) (is : List BodyItem) → AllByRecursion OfItem is → OfNode (node_text.Full line name word is)
  full_layer line name word is h k =
      let all = subst Within (texts.in_full line name word is) k in
      let own : Written = record { names = name ∷ []; fields = []; values = [] } in
      full_holds asked line name word is (first_of own (all_of in_item is) all).names.0 (each_holds (ItemHolds asked) in_item is h (second_of own (all_of in_item is) all))

  prototype_layer : (p : ProtoText) → AllByRecursion (OfDeclaration OfNode) (out-ProtoText p).interface → AllByRecursion OfStatement (out-ProtoText p).body → OfProto p
  prototype_layer p ds ss k =
      let q = out-ProtoText p in
      let all = subst Within (texts.in_prototype p) k in
      prototype_holds asked p (interface_holds q.interface ds (first_of (all_of in_interface q.interface) (all_of in_statement q.body) all))
      (each_holds (StatementHolds asked) in_statement q.body ss (second_of (all_of in_interface q.interface) (all_of in_statement q.body) all))

  layers : Layers OfItem OfNode OfStatement OfProto
  layers = record {
    field = λ line name g h k. field_holds asked line name g (given_holds g h (subst Within (texts.in_field line name g) k));
    declaration = declaration_layer;
    item_route = λ r k. route_item_holds asked r;
    item_proto = λ p h k. proto_item_holds asked p (h (subst Within (texts.in_item_proto p) k));
    used = λ line name k. use_holds asked line name;
    full = full_layer;
    node = λ n h k. node_holds asked n (h (subst Within (texts.in_node_statement n) k));
    route = λ r k. route_holds asked r;
    proto = λ p h k. proto_holds asked p (h (subst Within (texts.in_proto_statement p) k));
    prototype = prototype_layer;
  }

  flat_within : (d : Document) (f : Flat) → Within (written d) → flat d ≡ Ok f → FlatHolds asked f
  flat_within d f k e =
      flat_is_held asked d f (statements_held asked d.statements (each_holds (StatementHolds asked) in_statement d.statements (every OfItem OfNode OfStatement OfProto layers d.statements) k)) e

  scripted : (t : NodeType) (ds : List Field) → Owns t ds → (t ≡ Script) ⊎ (ds ≡ [])
  scripted t ds h = by_script (sameb node_types.the_type t Script) refl h where
    by_script : (s : Bool) → sameb node_types.the_type t Script ≡ s → OwnsBy s ds → (t ≡ Script) ⊎ (ds ≡ [])
    by_script true e k = inl (same_true node_types.the_type tt t Script e)
    by_script false e k = inr k

  node_written : (node : FlatNode) → IsHeld asked node → IsWritten w node
  node_written node h = record { named = h.named; scripted = scripted node.node_type node.interface h.own; declared = h.declared; values = h.values }

own_within : (w : Written) → Within w w
own_within w = record { names = all_own w.names; fields = all_own w.fields; values = all_own w.values }

pub flats_are_written : FlatsAreWritten
flats_are_written d f e = all_weaker (IsHeld (asked (written d))) (IsWritten (written d)) (node_written (written d)) f.nodes (flat_within (written d) d f (own_within (written d)) e).nodes

pub flats_are_limited : FlatsAreLimited
flats_are_limited d f e = let h = flat_within (written d) d f (own_within (written d)) e in (h.count, h.routes)

pub names_are_apart : NamesAreApart
names_are_apart d f e = all_weaker (IsHeld (asked (written d))) HasNamesApart (λ node h. h.apart) f.nodes (flat_within (written d) d f (own_within (written d)) e).nodes
