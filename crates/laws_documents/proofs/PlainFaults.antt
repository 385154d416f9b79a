-- Which faults a document without prototypes can have.
use Rattle.std.proofs.Common.{◌≡◌, ℕ, Bool, true, false, if◌then◌else◌, nat_lt, List, [], ◌∷◌, ◌++◌, length, Option, Some, None, Result, Ok, Err, map, refl, ap, sym, ◌∙◌, subst}
use Rattle.std.specs.Prelude.{◌&&◌, is_some}
use Rattle.std.specs.List.{AllByRecursion, flat_map, list_all}
use Rattle.std.specs.Option.{option_map_or}
use denote.Enum.Bare.{sameb}
use Rattle.x3d_values.specs.contracts.node_type.NodeType as node_types
use Rattle.x3d_values.specs.declared.node_type.NodeType.{NodeType}
use Rattle.x3d_values.specs.declared.node_type.NodeType.TheVariants.{Script}
use Rattle.x3d_values.specs.Names.{node_type_named}
use Rattle.classic_tree.specs.declared.tree.BodyItem.{BodyItem}
use Rattle.classic_tree.specs.declared.tree.BodyItem.TheOpen.{BodyItem-F}
use Rattle.classic_tree.specs.declared.tree.BodyItem.TheVariants as item_text
use Rattle.classic_tree.specs.declared.tree.Declaration.{Declaration}
use Rattle.classic_tree.specs.declared.tree.Document.{Document}
use Rattle.classic_tree.specs.declared.tree.Given.{Given}
use Rattle.classic_tree.specs.declared.tree.Given.TheVariants as given
use Rattle.classic_tree.specs.declared.tree.NodeText.{NodeText}
use Rattle.classic_tree.specs.declared.tree.NodeText.TheVariants as node_text
use Rattle.classic_tree.specs.declared.tree.ProtoText.{ProtoText}
use Rattle.classic_tree.specs.declared.tree.RawValue.TheVariants as value
use Rattle.classic_tree.specs.declared.tree.RouteText.{RouteText}
use Rattle.classic_tree.specs.declared.tree.Statement.{Statement}
use Rattle.classic_tree.specs.declared.tree.Statement.TheVariants as statement_text
use Rattle.classic_tree.proofs.Mapped.{given_mapped, declaration_mapped}
use Rattle.proto_flat.specs.Fault.{fault}
use Rattle.proto_flat.specs.declared.fault.ExpandFault.{ExpandFault}
use Rattle.proto_flat.specs.declared.fault.ExpandFaultKind.TheVariants.{UnknownField, UnknownNode, UseWithoutDef, FieldTwice, TooLarge}
use Rattle.proto_flat.specs.declared.flat.Flat.{Flat}
use Rattle.proto_meaning.specs.Limits.{Met, AField, Outcome, follow, and_then, is_within, item_count, with_few_routes}
use Rattle.proto_meaning.specs.Names.{Name, Field}
use Rattle.proto_meaning.specs.Flat.{field, fields_of, header_of, numbered_from, comes}
use Rattle.proto_meaning.proofs.Induction.{OfDeclaration, OfGiven, Layers, every}
use Rattle.laws_documents.specs.Plain.{Reading, PlainRead, ◌>>=◌, pure, refuse, meet, in_turn, last_closed, read_value, Between, ItemReads, fill, give, is_filled, flat_node, close_pair, read_node, item_step, node_step, statement_step, read_all, read_item, read_text, read_statement, route_of, plain, is_plain, is_plain_item, is_plain_node, is_plain_statement, plain_node_step}
use Rattle.laws_documents.specs.Steps.{is_true, all_in, plain_item_step, plain_statement_step}
use Rattle.laws_documents.proofs.PlainTexts as texts
use Rattle.laws_documents.proofs.PlainWalk.{plain_documents_are_themselves}
use Rattle.laws_documents.proofs.Lists.{all_split}
use Rattle.laws_documents.specs.Faults.{IsPlain, IsPlainFault, PlainDocumentsFail}
use Rattle.laws_documents.specs.Parts.{item as part}
use Rattle.laws_documents.specs.Parts.{BraceItem, TreePart, in_given, in_item, in_node, in_statement}
use Rattle.laws_documents.proofs.Keeping.{opened}
use Rattle.laws_documents.proofs.PartTexts as parts

-- ---- outcomes

abbrev FaultOf : {A : Type 0} → Result A ExpandFault → Type 0
FaultOf (Ok a) = Unit {0}
FaultOf (Err e) = IsPlainFault e.kind

abbrev Fails : {A : Type 0} → Outcome A → Type 0
Fails o = FaultOf o.comes

then_fault : {A B : Type 0} (met : List Met) (c : Result (A × Reading) ExpandFault) (f : A → PlainRead B) → FaultOf c → ((a : A) (r : Reading) → Fails (f a r)) → Fails (follow met c (λ p. f p.0 p.1))
then_fault met (Ok p) f h k = k p.0 p.1
then_fault met (Err e) f h k = h

fails_then : {A B : Type 0} (o : Outcome (A × Reading)) (f : A → PlainRead B) → Fails o → ((a : A) (r : Reading) → Fails (f a r)) → Fails (and_then o (λ p. f p.0 p.1))
fails_then o f h k = then_fault o.met o.comes f h k

fails_if : {A : Type 0} (b : Bool) (m n : PlainRead A) (r : Reading) → Fails (m r) → Fails (n r) → Fails ((if b then m else n) r)
fails_if true m n r h k = h
fails_if false m n r h k = k

fails_option : {X A : Type 0} (o : Option X) (f : X → PlainRead A) (m : PlainRead A) (r : Reading) → ((x : X) → Fails (f x r)) → Fails (m r) → Fails (option_map_or f o m r)
fails_option None f m r h k = k
fails_option (Some x) f m r h k = h x

-- ---- parts without prototypes

abbrev ArePlain : List TreePart → Type 0
ArePlain ps = AllByRecursion IsPlain ps

abbrev NodeIs : NodeText → Type 0
NodeIs n = ArePlain (in_node n) → (is_plain_node n ≡ true) × ((r : Reading) → Fails (read_text n r))

abbrev ItemIs : BodyItem → Type 0
ItemIs i = ArePlain (in_item i) → (is_plain_item i ≡ true) × ((t : NodeType) (b : Between) (r : Reading) → Fails (read_item i t b r))

abbrev StatementIs : Statement → Type 0
StatementIs s = ArePlain (in_statement s) → (is_plain_statement s ≡ true) × ((r : Reading) → Fails (read_statement s r))

both_true : (a b : Bool) → a ≡ true → b ≡ true → a && b ≡ true
both_true true b e k = k
both_true false b e k = absurd cc

all_plain : {A : Type 0} (test : A → Bool) (ps : A → List TreePart) (R : A → Type 0) (xs : List A) → AllByRecursion (λ (x : A). ArePlain (ps x) → (test x ≡ true) × R x) xs → ArePlain (flat_map ps xs) → (list_all is_true (map test xs) ≡ true) × AllByRecursion R xs
all_plain test ps R [] h k = (refl, tt)
all_plain test ps R (x ∷ xs) h k =
    let both = all_split IsPlain (ps x) (flat_map ps xs) k in
    let one = h.0 both.0 in
    let rest = all_plain test ps R xs h.1 both.1 in
    (both_true (test x) (list_all is_true (map test xs)) one.0 rest.0, (one.1, rest.1))

-- ---- values

abbrev next_number : PlainRead ℕ → List ℕ → PlainRead (List ℕ)
next_number node ns = node >>= λ n. pure (ns ++ n ∷ [])

abbrev ReadsNode : NodeText → Type 0
ReadsNode n = (r : Reading) → Fails (read_text n r)

nodes_fail : (ns : List NodeText) → AllByRecursion ReadsNode ns → (ks : List ℕ) (r : Reading) → Fails (in_turn next_number (map read_text ns) ks r)
nodes_fail [] h ks r = tt
nodes_fail (n ∷ ns) h ks r =
    fails_then (next_number (read_text n) ks r) (in_turn next_number (map read_text ns)) (fails_then (read_text n r) (λ k. pure (ks ++ k ∷ [])) (h.0 r) (λ k q. tt)) (λ ls q. nodes_fail ns h.1 ls q)

-- a value and no IS
abbrev GivenFails : Given (PlainRead ℕ) → Type 0
GivenFails given.Nothing = Unit {0}
GivenFails (given.Is name) = ⊥
GivenFails (given.Value v) = (r : Reading) → Fails (read_value v r)

given_is : (g : Given NodeText) → OfGiven NodeIs g → ArePlain (in_given in_node g) → (all_in (given_mapped is_plain_node g) ≡ true) × GivenFails (given_mapped read_text g)
given_is given.Nothing h k = (refl, tt)
given_is (given.Is name) h k = absurd k.0
given_is (given.Value value.Null) h k = (refl, λ r. tt)
given_is (given.Value (value.Truth truth)) h k = (refl, λ r. tt)
given_is (given.Value (value.String text)) h k = (refl, λ r. tt)
given_is (given.Value (value.Numbers numbers)) h k = (refl, λ r. tt)
given_is (given.Value (value.Node n)) h k = let one = h k in (one.0, λ r. fails_then (read_text n r) (λ k. pure (value.Node k)) (one.1 r) (λ k q. tt))
given_is (given.Value value.EmptyList) h k = (refl, λ r. tt)
given_is (given.Value (value.TruthList truths)) h k = (refl, λ r. tt)
given_is (given.Value (value.StringList texts)) h k = (refl, λ r. tt)
given_is (given.Value (value.NumberList numbers)) h k = (refl, λ r. tt)
given_is (given.Value (value.NodeList ns)) h k =
    let all = all_plain is_plain_node in_node ReadsNode ns h k in
    (all.0, λ r. fails_then (in_turn next_number (map read_text ns) [] r) (λ ks. pure (value.NodeList ks)) (nodes_fail ns all.1 [] r) (λ ks q. tt))

-- ---- fields

give_fails : (line : ℕ) (f : ℕ × Field) (twice : Bool) (g : Given (PlainRead ℕ)) → GivenFails g → (b : Between) (r : Reading) → Fails (give line f twice g b r)
give_fails line f twice given.Nothing h b r = fails_if twice (refuse FieldTwice line) (meet (AField f.0 0) >>= λ _. pure (fill line f b None)) r tt tt
give_fails line f twice (given.Is a) h b r = absurd h
give_fails line f twice (given.Value v) h b r =
    fails_if twice (refuse FieldTwice line) (meet (AField f.0 (item_count v)) >>= λ _. read_value v >>= λ u. pure (fill line f b (Some u))) r tt
    (fails_then (read_value v r) (λ u. pure (fill line f b (Some u))) (h r) (λ u q. tt))

field_fails : (line : ℕ) (name : Name) (g : Given (PlainRead ℕ)) → GivenFails g → (t : NodeType) (b : Between) (r : Reading) → Fails (item_step (BodyItem-F.Field line name g) t b r)
unfolding item_step
field_fails line name g h t b r =
    fails_option (numbered_from 0 name b.fields) (λ f. give line f (is_filled name b) g b) (refuse UnknownField line) r (λ f. give_fails line f (is_filled name b) g h b r) tt

declaration_fails : (d : Declaration (PlainRead ℕ)) → GivenFails d.given → (t : NodeType) (b : Between) (r : Reading) → Fails (item_step (BodyItem-F.Declaration d) t b r)
unfolding item_step
declaration_fails d h t b r =
    let c : Between = record b { fields = b.fields ++ field d ∷ [] } in
    fails_if (sameb node_types.the_type t Script) (give d.line (length b.fields, field d) (is_some (numbered_from 0 d.name b.fields)) d.given c) (refuse UnknownField d.line) r
    (give_fails d.line (length b.fields, field d) (is_some (numbered_from 0 d.name b.fields)) d.given h c r) tt

inside_of : (i : BodyItem) (p : BraceItem) → part i ≡ p → ArePlain (in_item i) → ArePlain p.inside
inside_of i p e h = subst (λ (x : BraceItem). ArePlain x.inside) e h

field_layer : (line : ℕ) (name : Name) (g : Given NodeText) → OfGiven NodeIs g → ItemIs (item_text.Field line name g)
unfolding plain_item_step
field_layer line name g h k =
    let both = given_is g h (inside_of (item_text.Field line name g) _ (parts.part_field line name g) k) in (
      texts.plain-field line name g ∙ both.0,
      λ t b r. subst (λ (m : ItemReads). Fails (m t b r)) (sym (texts.read-field line name g)) (field_fails line name (given_mapped read_text g) both.1 t b r),
    )

declaration_layer : (d : Declaration NodeText) → OfDeclaration NodeIs d → ItemIs (item_text.Declaration d)
unfolding plain_item_step
declaration_layer d h k =
    let both = given_is d.given h (inside_of (item_text.Declaration d) _ (parts.part_declaration d) k) in (
      texts.plain-declaration d ∙ both.0,
      λ t b r. subst (λ (m : ItemReads). Fails (m t b r)) (sym (texts.read-declaration d)) (declaration_fails (declaration_mapped read_text d) both.1 t b r),
    )

route_item_layer : (route : RouteText) → ItemIs (item_text.Route route)
unfolding plain_item_step item_step
route_item_layer route k = (texts.plain-item-route route, λ t b r. subst (λ (m : ItemReads). Fails (m t b r)) (sym (texts.read-item-route route)) tt)

proto_item_layer : (p : ProtoText) → ItemIs (item_text.Proto p)
proto_item_layer p k = absurd (inside_of (item_text.Proto p) _ (parts.part_proto p) k).0

-- ---- nodes

abbrev ReadsItem : BodyItem → Type 0
ReadsItem i = (t : NodeType) (b : Between) (r : Reading) → Fails (read_item i t b r)

items_fail : (is : List BodyItem) → AllByRecursion ReadsItem is → (t : NodeType) (b : Between) (r : Reading) → Fails (in_turn (λ (i : ItemReads). i t) (map read_item is) b r)
items_fail [] h t b r = tt
items_fail (i ∷ is) h t b r = fails_then (read_item i t b r) (in_turn (λ (i : ItemReads). i t) (map read_item is)) (h.0 t b r) (λ c q. items_fail is h.1 t c q)

full_fails : (line : ℕ) (name : Option Name) (is : List BodyItem) → AllByRecursion ReadsItem is → (o : Option NodeType) (r : Reading) → Fails (option_map_or (read_node line name (map read_item is)) o (refuse UnknownNode line) r)
full_fails line name is h None r = tt
full_fails line name is h (Some t) r =
    let first : Between = record { fields = fields_of t; filled = [] } in
    fails_then (in_turn (λ (i : ItemReads). i t) (map read_item is) first (opened name r)) (λ b. close_pair name (length r.pairs) (flat_node line name t b)) (items_fail is h t first (opened name r)) (λ b q. tt)

full_layer : (line : ℕ) (name : Option Name) (word : Name) (is : List BodyItem) → AllByRecursion ItemIs is → NodeIs (node_text.Full line name word is)
unfolding plain_node_step node_step
full_layer line name word is h k =
    let inner = (all_split IsPlain (flat_map in_item is) _ (subst ArePlain (parts.in_full line name word is) k)).0 in
    let all = all_plain is_plain_item in_item ReadsItem is h inner in (
      texts.plain-full line name word is ∙ all.0,
      λ r. subst (λ (m : PlainRead ℕ). Fails (m r)) (sym (texts.read-full line name word is)) (full_fails line name is all.1 (node_type_named word) r),
    )

use_fails : (line : ℕ) (o : Option ℕ) (r : Reading) → Fails (option_map_or pure o (refuse UseWithoutDef line) r)
use_fails line None r = tt
use_fails line (Some n) r = tt

use_layer : (line : ℕ) (name : Name) → NodeIs (node_text.Use line name)
unfolding plain_node_step node_step
use_layer line name k = (texts.plain-use line name, λ r. subst (λ (m : PlainRead ℕ). Fails (m r)) (sym (texts.read-use line name)) (use_fails line (last_closed name r.pairs) r))

-- ---- statements

node_layer : (n : NodeText) → NodeIs n → StatementIs (statement_text.Node n)
unfolding plain_statement_step statement_step
node_layer n h k =
    let one = h (subst ArePlain (parts.in_node_statement n) k) in (
      texts.plain-node n ∙ one.0,
      λ r. subst (λ (m : PlainRead (List ℕ)). Fails (m r)) (sym (texts.read-node n)) (fails_then (read_text n r) (λ k. pure (k ∷ [])) (one.1 r) (λ k q. tt)),
    )

route_layer : (route : RouteText) → StatementIs (statement_text.Route route)
unfolding plain_statement_step statement_step
route_layer route k = (texts.plain-route route, λ r. subst (λ (m : PlainRead (List ℕ)). Fails (m r)) (sym (texts.read-route route)) tt)

proto_layer : (p : ProtoText) → StatementIs (statement_text.Proto p)
proto_layer p k = absurd (subst ArePlain (parts.in_proto p) k).0

layers : Layers ItemIs NodeIs StatementIs (λ p. Unit {0})
layers = record {
  field = field_layer;
  declaration = declaration_layer;
  item_route = route_item_layer;
  item_proto = λ p h. proto_item_layer p;
  used = use_layer;
  full = full_layer;
  node = node_layer;
  route = route_layer;
  proto = λ p h. proto_layer p;
  prototype = λ p h k. tt;
}

-- ---- a document

abbrev ReadsStatement : Statement → Type 0
ReadsStatement s = (r : Reading) → Fails (read_statement s r)

both_of : (d : Document) → ArePlain (flat_map in_statement d.statements) → (list_all is_true (map is_plain_statement d.statements) ≡ true) × AllByRecursion ReadsStatement d.statements
both_of d k = all_plain is_plain_statement in_statement ReadsStatement d.statements (every ItemIs NodeIs StatementIs (λ p. Unit {0}) layers d.statements) k

all_mapped : {A : Type 0} (test : A → Bool) (xs : List A) → list_all is_true (map test xs) ≡ list_all test xs
all_mapped test [] = refl
all_mapped test (x ∷ xs) = ap (λ b. test x && b) (all_mapped test xs)

-- no PROTO stands in it
pub plain_is : (d : Document) → ArePlain (flat_map in_statement d.statements) → is_plain d ≡ true
plain_is d k = sym (all_mapped is_plain_statement d.statements) ∙ (both_of d k).0

abbrev next_root : PlainRead (List ℕ) → List ℕ → PlainRead (List ℕ)
next_root s roots = s >>= λ ns. pure (roots ++ ns)

roots_fail : (ss : List Statement) → AllByRecursion ReadsStatement ss → (roots : List ℕ) (r : Reading) → Fails (in_turn next_root (map read_statement ss) roots r)
roots_fail [] h roots r = tt
roots_fail (s ∷ ss) h roots r =
    fails_then (next_root (read_statement s) roots r) (in_turn next_root (map read_statement ss)) (fails_then (read_statement s r) (λ ns. pure (roots ++ ns)) (h.0 r) (λ ns q. tt)) (λ all q. roots_fail ss h.1 all q)

few_fail : (b : Bool) (f : Flat) → FaultOf (if b then Err (fault TooLarge 0) else Ok f)
few_fail true f = tt
few_fail false f = tt

limit_fail : (b : Bool) (r : Result Flat ExpandFault) → FaultOf r → FaultOf (if b then r else Err (fault TooLarge 0))
limit_fail true r h = h
limit_fail false r h = tt

routes_fail : (r : Result Flat ExpandFault) → FaultOf r → FaultOf (with_few_routes r)
routes_fail (Ok f) h = few_fail (nat_lt 65536 (length f.routes)) f
routes_fail (Err e) h = h

abbrev finish : Document → List ℕ × Reading → Outcome Flat
finish d p = comes (Ok (record {
  header = header_of d;
  nodes = p.1.nodes;
  roots = p.0;
  helpers = [];
  routes = map (route_of p.1.pairs) p.1.wires;
}))

finish_fail : (d : Document) (met : List Met) (c : Result (List ℕ × Reading) ExpandFault) → FaultOf c → FaultOf (follow met c (finish d)).comes
finish_fail d met (Ok p) h = tt
finish_fail d met (Err e) h = h

plain_fails : (d : Document) → ArePlain (flat_map in_statement d.statements) → FaultOf (plain d)
plain_fails d k =
    let o = read_all (map read_statement d.statements) in
    let whole = and_then o (finish d) in
    limit_fail (is_within whole.met) (with_few_routes whole.comes)
    (routes_fail whole.comes (finish_fail d o.met o.comes (roots_fail d.statements (both_of d k).1 [] (record { nodes = []; pairs = []; wires = [] }))))

pub plain_documents_fail : PlainDocumentsFail
plain_documents_fail d e k is = subst FaultOf (sym (plain_documents_are_themselves d (plain_is d k)) ∙ is) (plain_fails d k)
