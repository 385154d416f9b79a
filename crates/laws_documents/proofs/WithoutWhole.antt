-- Prototypes that no braces name put nothing in.
use Rattle.std.proofs.Common.{◌≡◌, ℕ, Bool, true, false, List, [], ◌∷◌, ◌++◌, length, Option, Some, None, Result, Ok, Err, map, refl, ap, sym, ◌∙◌}
use Rattle.std.specs.Prelude.{◌&&◌}
use Rattle.std.specs.List.{AllByRecursion, flat_map, list_all}
use Rattle.std.specs.Option.{option_map_or}
use Rattle.std.proofs.Math.Path.{fun_ext}
use Rattle.std.proofs.lemmas.List.{append-nil, append_assoc, map-append}
use Rattle.x3d_values.specs.Names.{node_type_named}
use Rattle.x3d_values.specs.declared.node_type.NodeType.{NodeType}
use Rattle.classic_tree.specs.declared.tree.BodyItem.{BodyItem}
use Rattle.classic_tree.specs.declared.tree.BodyItem.TheOpen.{BodyItem-F, Statement-F}
use Rattle.classic_tree.specs.declared.tree.BodyItem.TheVariants as item_text
use Rattle.classic_tree.specs.declared.tree.Declaration.{Declaration}
use Rattle.classic_tree.specs.declared.tree.Document.{Document}
use Rattle.classic_tree.specs.declared.tree.Given.{Given}
use Rattle.classic_tree.specs.declared.tree.Given.TheVariants as given
use Rattle.classic_tree.specs.declared.tree.NodeText.{NodeText}
use Rattle.classic_tree.specs.declared.tree.NodeText.TheVariants as node_text
use Rattle.classic_tree.specs.declared.tree.ProtoText.{ProtoText}
use Rattle.classic_tree.specs.declared.tree.RawValue.TheVariants as value
use Rattle.classic_tree.specs.declared.tree.RouteText.{RouteText}
use Rattle.classic_tree.specs.declared.tree.Statement.{Statement}
use Rattle.classic_tree.specs.declared.tree.Statement.TheVariants as statement_text
use Rattle.classic_tree.proofs.Mapped.{given_mapped, declaration_mapped}
use Rattle.proto_flat.specs.declared.fault.ExpandFault.{ExpandFault}
use Rattle.proto_flat.specs.declared.fault.ExpandFaultKind.TheVariants.{UnknownNode}
use Rattle.proto_meaning.specs.Limits.{ANode, Met, Outcome, behind, follow, and_then, limited}
use Rattle.proto_meaning.specs.Names.{Name}
use Rattle.proto_meaning.specs.Flat.{fields_of, header_of, comes}
use Rattle.proto_meaning.proofs.Induction.{OfGiven, Layers, every}
use Rattle.laws_documents.specs.Plain.{Reading, PlainRead, ◌>>=◌, pure, refuse, in_turn, Between, ItemReads, close_pair, flat_node, is_plain_item, is_plain_node, is_plain_statement, item_step, node_step, plain, plain_node_step, read_item, read_node, read_statement, read_text, route_of, statement_step}
use Rattle.laws_documents.specs.Steps.{all_in, is_true, plain_item_step, plain_statement_step}
use Rattle.laws_documents.proofs.PlainTexts as texts
use Rattle.laws_documents.proofs.PlainWalk.{plain_documents_are_themselves}
use Rattle.laws_documents.specs.Without.{DeclarationsPutNothingIn, left_items, left_node, left_statements, without_protos}
use Rattle.laws_documents.proofs.BesideWhole.{documents_are_read_plainly}
use Rattle.laws_documents.proofs.Keeping.{opened}
use Rattle.laws_documents.proofs.WithoutTexts.{left_declaration, left_field, left_full, left_item_proto, left_item_route, left_proto, left_route, left_statement, left_use}

-- ---- one after the other

then_pure : {A : Type 0} (met : List Met) (c : Result (A × Reading) ExpandFault) → follow met c (λ p. pure p.0 p.1) ≡ record { met = met; comes = c }
then_pure met (Ok p) = ap (λ m. record { met = m; comes = Ok p }) (append-nil met)
then_pure met (Err e) = refl

then_again : {A B C : Type 0} (f : A → PlainRead B) (g : B → PlainRead C) (met : List Met) (c : Result (A × Reading) ExpandFault) → and_then (follow met c (λ p. f p.0 p.1)) (λ p. g p.0 p.1) ≡ follow met c (λ p. and_then (f p.0 p.1) (λ q. g q.0 q.1))
then_again f g met (Ok p) = one met (f p.0 p.1).met (f p.0 p.1).comes where
  one : (before met : List Met) (c : Result (_ × Reading) ExpandFault) → follow (before ++ met) c (λ q. g q.0 q.1) ≡ behind before (follow met c (λ q. g q.0 q.1))
  one before met (Ok q) = ap (λ m. record { met = m; comes = (g q.0 q.1).comes }) (append_assoc before met (g q.0 q.1).met)
  one before met (Err e) = refl
then_again f g met (Err e) = refl

module _ {A X : Type 0} (f : A → X → PlainRead X) where
  turn_append : (xs ys : List A) (x : X) (r : Reading) → in_turn f (xs ++ ys) x r ≡ and_then (in_turn f xs x r) (λ p. in_turn f ys p.0 p.1)
  turn_append [] ys x r = refl
  turn_append (a ∷ xs) ys x r =
      let o = f a x r in
      ap (λ (k : X × Reading → Outcome (X × Reading)). and_then o k) (fun_ext (λ p. turn_append xs ys p.0 p.1)) ∙ sym (then_again (in_turn f xs) (in_turn f ys) o.met o.comes)

  turn_one : (a : A) (x : X) (r : Reading) → in_turn f (a ∷ []) x r ≡ f a x r
  turn_one a x r = then_pure (f a x r).met (f a x r).comes

-- ---- parts

abbrev NodeSame : NodeText → Type 0
NodeSame n = (read_text (left_node n) ≡ read_text n) × (is_plain_node (left_node n) ≡ true)

abbrev item_of : NodeType → ItemReads → Between → PlainRead Between
item_of t i = i t

abbrev ItemSame : BodyItem → Type 0
ItemSame i = ((t : NodeType) (b : Between) (r : Reading) → in_turn (item_of t) (map read_item (left_items i)) b r ≡ read_item i t b r) × (list_all is_true (map is_plain_item (left_items i)) ≡ true)

abbrev next_root : PlainRead (List ℕ) → List ℕ → PlainRead (List ℕ)
next_root s roots = s >>= λ ns. pure (roots ++ ns)

abbrev StatementSame : Statement → Type 0
StatementSame s = ((roots : List ℕ) (r : Reading) → in_turn next_root (map read_statement (left_statements s)) roots r ≡ next_root (read_statement s) roots r) × (list_all is_true (map is_plain_statement (left_statements s)) ≡ true)

both_true : (a b : Bool) → a ≡ true → b ≡ true → a && b ≡ true
both_true true b e k = k
both_true false b e k = absurd cc

all_append : (xs ys : List Bool) → list_all is_true xs ≡ true → list_all is_true ys ≡ true → list_all is_true (xs ++ ys) ≡ true
all_append [] ys e k = k
all_append (true ∷ xs) ys e k = all_append xs ys e k
all_append (false ∷ xs) ys e k = absurd cc

given_same : (g : Given NodeText) → OfGiven NodeSame g → (given_mapped read_text (given_mapped left_node g) ≡ given_mapped read_text g) × (all_in (given_mapped is_plain_node (given_mapped left_node g)) ≡ true)
given_same given.Nothing h = (refl, refl)
given_same (given.Is name) h = (refl, refl)
given_same (given.Value value.Null) h = (refl, refl)
given_same (given.Value (value.Truth truth)) h = (refl, refl)
given_same (given.Value (value.String text)) h = (refl, refl)
given_same (given.Value (value.Numbers numbers)) h = (refl, refl)
given_same (given.Value (value.Node n)) h = (ap (λ (m : PlainRead ℕ). given.Value (value.Node m)) h.0, h.1)
given_same (given.Value value.EmptyList) h = (refl, refl)
given_same (given.Value (value.TruthList truths)) h = (refl, refl)
given_same (given.Value (value.StringList texts)) h = (refl, refl)
given_same (given.Value (value.NumberList numbers)) h = (refl, refl)
given_same (given.Value (value.NodeList ns)) h = (ap (λ (ms : List (PlainRead ℕ)). given.Value (value.NodeList ms)) (nodes ns h).0, (nodes ns h).1) where
  nodes : (ns : List NodeText) → AllByRecursion NodeSame ns → (map read_text (map left_node ns) ≡ map read_text ns) × (list_all is_true (map is_plain_node (map left_node ns)) ≡ true)
  nodes [] h = (refl, refl)
  nodes (n ∷ ns) h =
      let rest = nodes ns h.1 in (
        ap (λ (m : PlainRead ℕ). m ∷ map read_text (map left_node ns)) h.0.0 ∙ ap (λ (ms : List (PlainRead ℕ)). read_text n ∷ ms) rest.0,
        both_true (is_plain_node (left_node n)) (list_all is_true (map is_plain_node (map left_node ns))) h.0.1 rest.1,
      )

-- one item is left
one_left : (i j : BodyItem) → left_items i ≡ j ∷ [] → read_item j ≡ read_item i → is_plain_item j ≡ true → ItemSame i
one_left i j e same plain_one = (
  λ t b r. ap (λ is. in_turn (item_of t) (map read_item is) b r) e ∙ turn_one (item_of t) (read_item j) b r ∙ ap (λ (m : ItemReads). m t b r) same,
  ap (λ is. list_all is_true (map is_plain_item is)) e ∙ both_true (is_plain_item j) true plain_one refl,
)

field_layer : (line : ℕ) (name : Name) (g : Given NodeText) → OfGiven NodeSame g → ItemSame (item_text.Field line name g)
unfolding plain_item_step
field_layer line name g h =
    let s = given_same g h in
    one_left (item_text.Field line name g) (item_text.Field line name (given_mapped left_node g)) (left_field line name g)
    (texts.read-field line name (given_mapped left_node g) ∙ ap (λ (x : Given (PlainRead ℕ)). item_step (BodyItem-F.Field line name x)) s.0 ∙ sym (texts.read-field line name g))
    (texts.plain-field line name (given_mapped left_node g) ∙ s.1)

declaration_layer : (d : Declaration NodeText) → OfGiven NodeSame d.given → ItemSame (item_text.Declaration d)
unfolding plain_item_step
declaration_layer d h =
    let s = given_same d.given h in
    one_left (item_text.Declaration d) (item_text.Declaration (declaration_mapped left_node d)) (left_declaration d)
    (texts.read-declaration (declaration_mapped left_node d) ∙ ap (λ (x : Given (PlainRead ℕ)). item_step (BodyItem-F.Declaration (record (declaration_mapped read_text d) { given = x }))) s.0 ∙ sym (texts.read-declaration d))
    (texts.plain-declaration (declaration_mapped left_node d) ∙ s.1)

route_item_layer : (route : RouteText) → ItemSame (item_text.Route route)
unfolding plain_item_step
route_item_layer route = one_left (item_text.Route route) (item_text.Route route) (left_item_route route) refl (texts.plain-item-route route)

proto_item_layer : (p : ProtoText) → ItemSame (item_text.Proto p)
unfolding item_step
proto_item_layer p = (
  λ t b r. ap (λ is. in_turn (item_of t) (map read_item is) b r) (left_item_proto p) ∙ sym (ap (λ (m : ItemReads). m t b r) (texts.read-item-proto p)),
  ap (λ is. list_all is_true (map is_plain_item is)) (left_item_proto p),
)

-- ---- nodes

items_same : (is : List BodyItem) → AllByRecursion ItemSame is → (t : NodeType) (b : Between) (r : Reading) → in_turn (item_of t) (map read_item (flat_map left_items is)) b r ≡ in_turn (item_of t) (map read_item is) b r
items_same [] h t b r = refl
items_same (i ∷ is) h t b r =
    ap (λ xs. in_turn (item_of t) xs b r) (map-append read_item (left_items i) (flat_map left_items is))
    ∙ turn_append (item_of t) (map read_item (left_items i)) (map read_item (flat_map left_items is)) b r
    ∙ ap (λ (o : Outcome (Between × Reading)). and_then o (λ p. in_turn (item_of t) (map read_item (flat_map left_items is)) p.0 p.1)) (h.0.0 t b r)
    ∙ ap (λ (k : Between × Reading → Outcome (Between × Reading)). and_then (read_item i t b r) k) (fun_ext (λ p. items_same is h.1 t p.0 p.1))

items_plain : (is : List BodyItem) → AllByRecursion ItemSame is → list_all is_true (map is_plain_item (flat_map left_items is)) ≡ true
items_plain [] h = refl
items_plain (i ∷ is) h =
    ap (list_all is_true) (map-append is_plain_item (left_items i) (flat_map left_items is)) ∙ all_append (map is_plain_item (left_items i)) (map is_plain_item (flat_map left_items is)) h.0.1 (items_plain is h.1)

abbrev between : NodeType → Between
between t = record { fields = fields_of t; filled = [] }

node_same : (line : ℕ) (name : Option Name) (xs ys : List ItemReads) → ((t : NodeType) (b : Between) (r : Reading) → in_turn (item_of t) xs b r ≡ in_turn (item_of t) ys b r) → (t : NodeType) (r : Reading) → read_node line name xs t r ≡ read_node line name ys t r
node_same line name xs ys e t r =
    ap (λ (o : Outcome (Between × Reading)). behind (ANode ∷ []) (and_then o (λ p. close_pair name (length r.pairs) (flat_node line name t p.0) p.1))) (e t (between t) (opened name r))

word_same : (line : ℕ) (name : Option Name) (xs ys : List ItemReads) → ((t : NodeType) (b : Between) (r : Reading) → in_turn (item_of t) xs b r ≡ in_turn (item_of t) ys b r) → (o : Option NodeType) (r : Reading)
    → option_map_or (read_node line name xs) o (refuse UnknownNode line) r ≡ option_map_or (read_node line name ys) o (refuse UnknownNode line) r
word_same line name xs ys e None r = refl
word_same line name xs ys e (Some t) r = node_same line name xs ys e t r

full_layer : (line : ℕ) (name : Option Name) (word : Name) (is : List BodyItem) → AllByRecursion ItemSame is → NodeSame (node_text.Full line name word is)
unfolding node_step plain_node_step
full_layer line name word is h = (
  ap read_text (left_full line name word is) ∙ texts.read-full line name word (flat_map left_items is)
      ∙ fun_ext (λ r. word_same line name (map read_item (flat_map left_items is)) (map read_item is) (items_same is h) (node_type_named word) r) ∙ sym (texts.read-full line name word is),
  ap is_plain_node (left_full line name word is) ∙ texts.plain-full line name word (flat_map left_items is) ∙ items_plain is h,
)

use_layer : (line : ℕ) (name : Name) → NodeSame (node_text.Use line name)
unfolding plain_node_step
use_layer line name = (ap read_text (left_use line name), ap is_plain_node (left_use line name) ∙ texts.plain-use line name)

-- ---- statements

one_statement : (s u : Statement) → left_statements s ≡ u ∷ [] → read_statement u ≡ read_statement s → is_plain_statement u ≡ true → StatementSame s
one_statement s u e same plain_one = (
  λ roots r. ap (λ ss. in_turn next_root (map read_statement ss) roots r) e ∙ turn_one next_root (read_statement u) roots r ∙ ap (λ (m : PlainRead (List ℕ)). next_root m roots r) same,
  ap (λ ss. list_all is_true (map is_plain_statement ss)) e ∙ both_true (is_plain_statement u) true plain_one refl,
)

node_layer : (n : NodeText) → NodeSame n → StatementSame (statement_text.Node n)
unfolding plain_statement_step
node_layer n h =
    one_statement (statement_text.Node n) (statement_text.Node (left_node n)) (left_statement n)
    (texts.read-node (left_node n) ∙ ap (λ (m : PlainRead ℕ). statement_step (Statement-F.Node m)) h.0 ∙ sym (texts.read-node n)) (texts.plain-node (left_node n) ∙ h.1)

route_layer : (route : RouteText) → StatementSame (statement_text.Route route)
unfolding plain_statement_step
route_layer route = one_statement (statement_text.Route route) (statement_text.Route route) (left_route route) refl (texts.plain-route route)

nothing_more : (roots : List ℕ) → roots ≡ roots ++ []
nothing_more roots = sym (append-nil roots)

proto_layer : (p : ProtoText) → StatementSame (statement_text.Proto p)
unfolding statement_step
proto_layer p = (
  λ roots r. ap (λ ss. in_turn next_root (map read_statement ss) roots r) (left_proto p) ∙ ap (λ ns. pure ns r) (nothing_more roots) ∙ sym (ap (λ (m : PlainRead (List ℕ)). next_root m roots r) (texts.read-proto p)),
  ap (λ ss. list_all is_true (map is_plain_statement ss)) (left_proto p),
)

layers : Layers ItemSame NodeSame StatementSame (λ p. Unit {0})
layers = record {
  field = field_layer;
  declaration = declaration_layer;
  item_route = route_item_layer;
  item_proto = λ p h. proto_item_layer p;
  used = use_layer;
  full = full_layer;
  node = node_layer;
  route = route_layer;
  proto = λ p h. proto_layer p;
  prototype = λ p h k. tt;
}

-- ---- a document

roots_same : (ss : List Statement) → AllByRecursion StatementSame ss → (roots : List ℕ) (r : Reading) → in_turn next_root (map read_statement (flat_map left_statements ss)) roots r ≡ in_turn next_root (map read_statement ss) roots r
roots_same [] h roots r = refl
roots_same (s ∷ ss) h roots r =
    ap (λ xs. in_turn next_root xs roots r) (map-append read_statement (left_statements s) (flat_map left_statements ss))
    ∙ turn_append next_root (map read_statement (left_statements s)) (map read_statement (flat_map left_statements ss)) roots r
    ∙ ap (λ (o : Outcome (List ℕ × Reading)). and_then o (λ p. in_turn next_root (map read_statement (flat_map left_statements ss)) p.0 p.1)) (h.0.0 roots r)
    ∙ ap (λ (k : List ℕ × Reading → Outcome (List ℕ × Reading)). and_then (next_root (read_statement s) roots r) k) (fun_ext (λ p. roots_same ss h.1 p.0 p.1))

all_mapped : {A : Type 0} (test : A → Bool) (xs : List A) → list_all is_true (map test xs) ≡ list_all test xs
all_mapped test [] = refl
all_mapped test (x ∷ xs) = ap (λ b. test x && b) (all_mapped test xs)

statements_plain : (ss : List Statement) → AllByRecursion StatementSame ss → list_all is_true (map is_plain_statement (flat_map left_statements ss)) ≡ true
statements_plain [] h = refl
statements_plain (s ∷ ss) h =
    ap (list_all is_true) (map-append is_plain_statement (left_statements s) (flat_map left_statements ss))
    ∙ all_append (map is_plain_statement (left_statements s)) (map is_plain_statement (flat_map left_statements ss)) h.0.1 (statements_plain ss h.1)

plain_same : (d : Document) → plain (without_protos d) ≡ plain d
plain_same d =
    ap (λ o. limited (and_then o (λ p. comes (Ok (record {
      header = header_of d;
      nodes = p.1.nodes;
      roots = p.0;
      helpers = [];
      routes = map (route_of p.1.pairs) p.1.wires;
    }))))) (roots_same d.statements (every ItemSame NodeSame StatementSame (λ p. Unit {0}) layers d.statements) [] (record { nodes = []; pairs = []; wires = [] }))

pub declarations_put_nothing_in : DeclarationsPutNothingIn
declarations_put_nothing_in d f k e =
    plain_documents_are_themselves (without_protos d)
    (sym (all_mapped is_plain_statement (flat_map left_statements d.statements)) ∙ statements_plain d.statements (every ItemSame NodeSame StatementSame (λ p. Unit {0}) layers d.statements))
    ∙ plain_same d ∙ documents_are_read_plainly d f k e
